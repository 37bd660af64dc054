pub mod NameLaws
pub mod Rows
pub mod Runs
mod SpelledRows
