pub mod PutLaws
pub mod BehindLaws
