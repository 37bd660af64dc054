pub mod Given
pub mod Stripping
pub mod Passing
pub mod Following
pub mod Reading
