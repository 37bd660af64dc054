pub mod Marked
pub mod Assigned
pub mod Names
pub mod Writers
pub mod Making
pub mod Moved
pub mod Changed
pub mod After
