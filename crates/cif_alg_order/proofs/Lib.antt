pub mod NameLaws
pub mod GraphLaws
pub mod FillLaws
pub mod ReadLaws
pub mod FitLaws
pub mod CountLaws
pub mod RangeLaws
pub mod TableLaws
mod Rows
