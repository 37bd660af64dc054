pub mod WordLemmas
pub mod GenerateLaws
pub mod FaceLaws
pub mod UnfoldedLaws
pub mod ProgramLaws
mod ShownRows
