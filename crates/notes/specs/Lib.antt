pub mod Claims
pub mod Layouts
pub mod Removals
pub mod Splits
pub mod Stack
