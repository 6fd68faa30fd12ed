pub mod Building
pub mod Changing
pub mod Listed
