pub mod Corners
pub mod Ends
pub mod Chains
pub mod Strings
