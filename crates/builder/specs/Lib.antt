pub mod Around
pub mod Marks
pub mod Parts
