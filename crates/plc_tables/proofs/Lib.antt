pub mod ScanLemmas
pub mod EndingLaws
