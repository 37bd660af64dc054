pub mod ThroughoutLemmas
pub mod Rows
pub mod ViewLemmas
