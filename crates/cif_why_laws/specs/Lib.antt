pub mod Acceptable
pub mod Reasons
