pub mod Bits
pub mod Finite
