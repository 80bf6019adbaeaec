pub mod LawsScan
pub mod LawsRow
pub mod LawsProduct
