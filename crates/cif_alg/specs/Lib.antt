pub mod Keeps
pub mod Refusals
pub mod Weighed
pub mod Tallies
pub mod Sizes
pub mod Outlines
pub mod Invariants
