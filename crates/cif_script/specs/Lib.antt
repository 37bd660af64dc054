pub mod Changes
pub mod Numbers
pub mod Touches
pub mod Views
