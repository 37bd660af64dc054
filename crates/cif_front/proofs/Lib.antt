pub mod PhaseLaws
pub mod PathLaws
pub mod TextLaws
