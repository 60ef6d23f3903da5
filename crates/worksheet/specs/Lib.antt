pub mod Bounds
pub mod Claims
pub mod Degrees
pub mod Does
pub mod Left
pub mod Noting
pub mod Records
pub mod Upper
