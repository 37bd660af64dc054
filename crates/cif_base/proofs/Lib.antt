pub mod Intervals
pub mod Reading
