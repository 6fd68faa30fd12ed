pub mod Laying
pub mod Ranges
