pub mod SoundLaws
pub mod CalledLaws
pub mod RowLaws
pub mod RowBodyLaws
pub mod LoopLaws
pub mod EventNameLaws
