pub mod Arithmetic
pub mod Plane
pub mod Number
pub mod Bounds
pub mod Order
