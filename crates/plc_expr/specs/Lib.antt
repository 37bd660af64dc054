pub mod Texts
pub mod Held
pub mod Sorts
pub mod Shapes
pub mod Written
