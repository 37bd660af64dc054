pub mod PartLaws
pub mod CaseLaws
pub mod RecordParts
pub mod CutLaws
