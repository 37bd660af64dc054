pub mod Named
pub mod Outlines
pub mod Order
