pub mod ViewLemmas
pub mod Rows
