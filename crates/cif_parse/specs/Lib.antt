pub mod Trees
pub mod Grammar
pub mod Reading
pub mod ReadsUpdate
pub mod ReadsItem
