pub mod EdgeLaws
pub mod LeavingLaws
