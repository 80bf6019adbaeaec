pub mod PassLaws
pub mod RunLaws
pub mod Samples
pub mod SizeLaws
pub mod TaskLaws
