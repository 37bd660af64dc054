pub mod Views
pub mod Assigned
pub mod Faults
