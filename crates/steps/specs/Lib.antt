pub mod Sheet
pub mod Change
pub mod Steps
pub mod Start
pub mod Counts
pub mod Claims
pub mod Examples
