pub mod SourceLaws
pub mod OverSource
pub mod AcceptLaws
pub mod ReadingLaws
