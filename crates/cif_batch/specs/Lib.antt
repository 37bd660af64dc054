pub mod CaseTexts
pub mod Parts
pub mod Cutting
