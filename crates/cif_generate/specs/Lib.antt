pub mod Words
pub mod Shown
pub mod Meaning
pub mod Generates
pub mod Told
