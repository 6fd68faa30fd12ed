pub mod EdgeTable
pub mod Reading
pub mod Weights
pub mod Near
pub mod Edges
