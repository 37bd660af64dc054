pub mod WordLaws
pub mod NumberLaws
pub mod SignLaws
pub mod CutLaws
pub mod FrontLaws
pub mod FoundLaws
pub mod TokenLaws
pub mod StepLaws
