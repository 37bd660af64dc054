pub mod ClassLaws
pub mod RangeLaws
pub mod TextLaws
