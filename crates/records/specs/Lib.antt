pub mod Filling
pub mod Routing
