pub mod Tables
pub mod Largest
pub mod Magnitude
pub mod Spans
