pub mod TokenKinds
pub mod Spelling
pub mod Trees
pub mod Grammar
pub mod Reading
pub mod Parts
pub mod Gives
pub mod ReadsUn
