pub mod Written
pub mod MadeTree
pub mod MadeSpec
