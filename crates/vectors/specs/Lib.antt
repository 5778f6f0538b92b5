pub mod Tallies
pub mod Kinds
pub mod Judged
pub mod Lines
