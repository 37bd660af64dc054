pub mod Left
pub mod Halts
pub mod Made
