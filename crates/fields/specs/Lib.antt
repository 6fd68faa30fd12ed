pub mod Bits
pub mod Bounds
pub mod Copies
pub mod Sides
