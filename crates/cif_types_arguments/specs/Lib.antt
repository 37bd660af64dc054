pub mod Classes
pub mod Arguments
