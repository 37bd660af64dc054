pub mod Tree
pub mod View
pub mod Depth
pub mod Throughout
pub mod Countable
pub mod SmallNumbers
pub mod Shallow
