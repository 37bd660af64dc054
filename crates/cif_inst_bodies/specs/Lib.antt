pub mod Alike
pub mod Arguments
pub mod Constancy
pub mod Denoted
pub mod Entries
