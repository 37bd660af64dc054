pub mod Lists
pub mod SearchLaws
pub mod OrderLaws
pub mod SpreadLaws
pub mod Rows
