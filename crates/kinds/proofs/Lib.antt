pub mod LawsKinds
