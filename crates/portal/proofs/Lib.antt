pub mod Sides
pub mod AllMarks
pub mod Places
pub mod Entries
