pub mod Codes
pub mod Groups
pub mod Lines
pub mod Refusals
pub mod Works
pub mod Tells
pub mod Words
