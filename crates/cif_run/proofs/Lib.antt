pub mod FileLaws
pub mod TellLaws
pub mod CallLaws
pub mod WordLaws
