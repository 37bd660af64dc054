pub mod Meanings
pub mod Checked
pub mod Faults
pub mod Counted
pub mod TypeBounds
pub mod Widths
pub mod Rules
pub mod Sizes
