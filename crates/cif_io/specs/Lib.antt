pub mod Faults
pub mod Written
pub mod Shelf
pub mod Tape
pub mod Taken
