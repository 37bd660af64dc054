pub mod WordLemmas
pub mod CheckLaws
