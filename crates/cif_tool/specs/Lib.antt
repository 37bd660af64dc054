pub mod Commands
pub mod Asks
pub mod Laws
