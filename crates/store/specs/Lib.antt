pub mod Checks
pub mod Ends
pub mod Layout
pub mod Passed
pub mod Stored
