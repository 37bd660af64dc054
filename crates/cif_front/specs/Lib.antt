pub mod Dues
pub mod Loads
pub mod Kept
pub mod Paths
