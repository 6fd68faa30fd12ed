pub mod Searching
pub mod Keys
pub mod Turns
