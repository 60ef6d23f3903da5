pub mod Answers
pub mod Entries
pub mod Posts
pub mod Questions
pub mod Refusals
pub mod Runs
pub mod Standing
