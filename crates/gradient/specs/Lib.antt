pub mod Gradient
pub mod GradientLaws
pub mod Work
pub mod WorkLaws
