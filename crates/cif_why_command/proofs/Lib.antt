pub mod WordLemmas
pub mod ReasonLaws
pub mod WhyLaws
pub mod ByEvent
pub mod SourceLaws
