pub mod Rows
pub mod Table
pub mod Told
pub mod Columns
pub mod Left
pub mod Standing
