pub mod Task
pub mod Space
pub mod Run
pub mod Machine
pub mod SolvedPlace
pub mod Sized
pub mod Shown
