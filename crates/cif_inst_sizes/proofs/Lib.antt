mod NameLaws
mod FollowLaws
mod CountedLaws
pub mod RankLaws
mod NeedLaws
mod ArgumentLaws
mod FillLaws
pub mod DefinitionLaws
mod WeightLaws
mod GrowLaws
mod ResolveLaws
