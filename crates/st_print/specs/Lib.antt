pub mod Layout
pub mod Printing
pub mod Marks
