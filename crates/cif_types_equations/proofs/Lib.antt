pub mod MapLaws
pub mod TallyLaws
pub mod CountLaws
pub mod ElementLaws
pub mod FaultLaws
