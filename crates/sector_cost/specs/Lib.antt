pub mod One
pub mod Places
