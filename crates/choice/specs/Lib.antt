pub mod Choosing
pub mod Ends
pub mod FirstPair
