pub mod Choices
pub mod Copies
pub mod Held
pub mod Ranges
pub mod Updates
pub mod Within
pub mod Working
pub mod Writes
