pub mod LawsCorners
pub mod LawsElement
pub mod LawsInsert
pub mod LawsRow
pub mod LawsWalk
pub mod LawsPlaced
pub mod LawsMatrix
pub mod LawsRight
