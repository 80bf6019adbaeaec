pub mod LawsSolving
pub mod LawsCrossing
pub mod LawsPhases
