pub mod Tables
pub mod Readings
pub mod Met
pub mod Faults
pub mod Values
pub mod Uses
