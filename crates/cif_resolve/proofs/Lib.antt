pub mod FirstLaws
pub mod TestLaws
pub mod BodyLaws
pub mod FaultLaws
pub mod SingleLaws
pub mod AnswerLaws
