pub mod StatedLaws
pub mod PredicateLaws
pub mod WeightLaws
