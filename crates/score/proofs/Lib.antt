pub mod Entries
pub mod Joins
