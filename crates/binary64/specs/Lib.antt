pub mod Arith
pub mod Constants
pub mod Number
pub mod NumberLaws
pub mod Root
pub mod RootTheorems
