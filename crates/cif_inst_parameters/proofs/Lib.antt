mod ListLaws
mod StripLaws
pub mod EarlyLaws
mod PassedLaws
mod TargetLaws
mod FollowLaws
mod TurnLaws
mod GivingLaws
