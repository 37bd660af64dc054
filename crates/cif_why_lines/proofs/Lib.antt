pub mod LineLaws
pub mod SearchLaws
pub mod TargetLaws
