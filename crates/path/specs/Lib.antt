pub mod Following
pub mod PortalPaths
pub mod Stepping
