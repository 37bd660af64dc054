pub mod AskedLaws
pub mod ToolLaws
pub mod TakenLaws
