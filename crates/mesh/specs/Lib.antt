pub mod Surface
pub mod Sound
pub mod Lists
pub mod Verdict
pub mod Stages
pub mod MeshLists
