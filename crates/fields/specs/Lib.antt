pub mod Faults
pub mod Forms
pub mod Questions
pub mod Text
pub mod Values
pub mod Words
