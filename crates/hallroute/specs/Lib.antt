pub mod Opening
pub mod Printed
