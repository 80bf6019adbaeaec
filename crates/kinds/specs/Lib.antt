pub mod Found
pub mod FoundLaws
pub mod Solving
pub mod SolvingLaws
pub mod Next
pub mod NextLaws
