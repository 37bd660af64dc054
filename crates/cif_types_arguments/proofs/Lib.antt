pub mod ClassLaws
pub mod FitLaws
pub mod ArgumentLaws
