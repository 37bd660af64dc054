pub mod Tables
pub mod Defined
pub mod Parts
