pub mod Printed
pub mod Steps
