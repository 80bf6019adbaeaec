pub mod LoopLaws
pub mod VecLaws
