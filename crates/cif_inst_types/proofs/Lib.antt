pub mod TurnLaws
pub mod EntryLaws
pub mod ConstantLaws
pub mod LeafLaws
pub mod FirstLaws
pub mod ValueLaws
