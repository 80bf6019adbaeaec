pub mod Stretch
pub mod StretchLaws
pub mod SegmentLaws
pub mod Vec
