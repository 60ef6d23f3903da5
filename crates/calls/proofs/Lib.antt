pub mod Asked
pub mod Counts
pub mod OverPosts
pub mod Striking
pub mod Values
