pub mod History
pub mod Pairs
pub mod Variables
