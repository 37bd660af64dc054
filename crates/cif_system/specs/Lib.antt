pub mod Choices
pub mod Scan
pub mod Step
pub mod System
pub mod Words
