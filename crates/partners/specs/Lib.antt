pub mod Links
pub mod Tallied
