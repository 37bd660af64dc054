pub mod Accepts
pub mod Refusals
