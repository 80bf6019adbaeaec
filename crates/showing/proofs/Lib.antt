pub mod LawsParts
