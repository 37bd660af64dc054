pub mod Words
pub mod Requests
pub mod Scripts
pub mod Simulates
pub mod Running
