pub mod Firsts
pub mod ConstancyLaws
