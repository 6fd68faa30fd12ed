pub mod Marking
pub mod Altering
pub mod Around
