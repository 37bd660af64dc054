pub mod WordLemmas
pub mod OverScript
pub mod ScriptLaws
pub mod RunLaws
pub mod SimulateLaws
pub mod ByWhich
