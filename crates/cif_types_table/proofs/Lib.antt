pub mod ListLaws
pub mod SlotLaws
pub mod NameLaws
pub mod KindLaws
pub mod CycleLaws
pub mod TableLaws
