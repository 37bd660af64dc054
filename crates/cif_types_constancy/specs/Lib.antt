pub mod Collected
pub mod Constancy
pub mod Due
