pub mod Words
pub mod Told
pub mod Replaying
pub mod Refusals
pub mod Ends
pub mod Judged
pub mod Replays
