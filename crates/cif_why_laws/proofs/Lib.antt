pub mod Unfolded
pub mod Reasons
pub mod Sources
