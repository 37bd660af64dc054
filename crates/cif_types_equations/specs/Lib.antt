pub mod Views
pub mod Tallies
pub mod Counts
pub mod Faults
