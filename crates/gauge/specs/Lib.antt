pub mod Measure
pub mod Laws
pub mod Forms
pub mod LawfulForms
