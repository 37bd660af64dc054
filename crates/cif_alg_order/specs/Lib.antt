pub mod Names
pub mod Orders
pub mod Filled
pub mod Measured
pub mod Ranged
