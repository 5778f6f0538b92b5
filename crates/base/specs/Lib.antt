pub mod Ids
pub mod Refusals
