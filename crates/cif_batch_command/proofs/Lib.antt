pub mod WordLemmas
pub mod RowNumbers
pub mod TableLemmas
pub mod BatchLaws
