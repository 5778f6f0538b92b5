pub mod RingOfPlaces
pub mod ListEquations
pub mod Popping
