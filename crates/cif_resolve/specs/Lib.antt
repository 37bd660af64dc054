pub mod Tests
pub mod Bodies
pub mod Faults
