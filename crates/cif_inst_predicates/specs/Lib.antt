pub mod Stated
pub mod Views
pub mod Predicates
pub mod Weights
