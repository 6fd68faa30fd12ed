pub mod Entries
pub mod Making
