pub mod Told
pub mod Endings
pub mod Standing
pub mod Stored
pub mod PlacedValues
pub mod PlacedExec
pub mod PlacedTruths
