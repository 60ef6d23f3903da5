pub mod Among
pub mod ByIndex
pub mod EntryReading
pub mod LineReading
pub mod ListingReading
pub mod RoundTrip
pub mod Splitting
