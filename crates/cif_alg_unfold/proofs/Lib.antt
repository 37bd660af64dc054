mod ListLaws
mod EachLaws
mod UpdateLaws
mod SameLaws
mod DefinedLaws
mod TableLaws
