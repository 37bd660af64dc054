mod ListSteps
mod ListSizes
mod ChildLaws
mod KidLaws
mod ListLaws
mod SizeLaws
mod ListNumbers
pub mod FindSingle
mod FindEntries
pub mod FindChildren
pub mod FindLaws
mod OuterLaws
