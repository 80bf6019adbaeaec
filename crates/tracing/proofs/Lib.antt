pub mod PointLaws
pub mod LengthLaws
