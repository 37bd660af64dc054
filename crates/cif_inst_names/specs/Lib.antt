pub mod Objects
pub mod Looking
pub mod ReadsNames
pub mod Places
