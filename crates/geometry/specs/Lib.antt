pub mod Plane
pub mod Ranges
pub mod Points
pub mod Text
