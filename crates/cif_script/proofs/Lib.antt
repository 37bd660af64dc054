pub mod Splits
pub mod Decimals
pub mod Finding
pub mod Naming
pub mod Saying
pub mod Listing
pub mod Within
