mod CutLaws
mod EndLaws
mod TableLaws
mod TallyLaws
mod AutoLaws
mod SumLaws
mod NodeLaws
mod ChannelLaws
mod RoleLaws
mod KeepLaws
mod AddedLaws
mod InlineLaws
mod LimitLaws
mod OutlineLaws
mod Rows
pub mod InvariantLaws
pub mod SettleLaws
