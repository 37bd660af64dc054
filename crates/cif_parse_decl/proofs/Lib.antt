pub mod SightLaws
pub mod Agrees
