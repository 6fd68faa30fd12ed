pub mod Journey
pub mod Parts
