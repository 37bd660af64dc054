pub mod InitialLaws
pub mod BodyLaws
pub mod KeptLaws
pub mod KindsToldLaws
