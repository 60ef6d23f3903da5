pub mod Opening
pub mod Scoring
pub mod ScoringBoard
pub mod Sending
pub mod Stands
pub mod Tables
