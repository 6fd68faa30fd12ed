pub mod Bits
pub mod Steps
pub mod Words
pub mod Levels
