pub mod EntryLaws
pub mod ObjectLaws
pub mod NameLaws
pub mod PlaceLaws
pub mod ListLaws
pub mod UpdateLaws
