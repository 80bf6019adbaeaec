pub mod Laws
pub mod LawsPlace
pub mod LawsVectors
