pub mod Answer
pub mod Items
pub mod ItemLaws
pub mod Write
