pub mod Each
pub mod FanReading
pub mod Squares
