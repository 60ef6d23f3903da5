pub mod Reading
pub mod Stacking
