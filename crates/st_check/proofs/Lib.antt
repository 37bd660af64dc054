pub mod Places
pub mod Declaring
pub mod Numbers
pub mod Firsts
pub mod Listed
pub mod Sorted
pub mod ListedPlaces
