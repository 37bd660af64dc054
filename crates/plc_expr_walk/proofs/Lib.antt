pub mod Opposite
pub mod Joining
pub mod Listing
pub mod Forming
pub mod Alike
