pub mod Settings
pub mod Inputs
