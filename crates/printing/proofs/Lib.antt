pub mod LawsText
pub mod LawsLast
pub mod Samples
