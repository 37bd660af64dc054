pub mod Agrees
pub mod Whole
pub mod PartLaws
pub mod FlatLaws
