pub mod Lawful
pub mod Layers
pub mod Sheet
pub mod Laws
