pub mod PartSizes
