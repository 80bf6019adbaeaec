pub mod Laws
pub mod HeadLaws
