mod Initial
pub mod Kept
mod PlaceLaws
