pub mod Initials
pub mod Kinds
pub mod KindsTold
pub mod Errors
pub mod Bodies
