pub mod Children
pub mod Kids
pub mod Sizes
pub mod Listing
pub mod Finding
pub mod Outers
pub mod Numbers
