pub mod Text
pub mod Put
pub mod LeftLaws
pub mod PutLaws
pub mod TextLaws
pub mod Samples
