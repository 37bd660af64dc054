pub mod WordLemmas
pub mod ReplayLemmas
pub mod EndLemmas
pub mod FileLemmas
pub mod JudgedLaws
pub mod ReplayLaws
