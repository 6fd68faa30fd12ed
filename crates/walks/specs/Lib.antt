pub mod Costs
pub mod Lines
pub mod Board
pub mod Showing
pub mod Walks
