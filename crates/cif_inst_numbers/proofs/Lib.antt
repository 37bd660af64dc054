mod Lists
mod Entries
mod Ranks
mod Positions
mod BodyLaws
mod NumberLaws
