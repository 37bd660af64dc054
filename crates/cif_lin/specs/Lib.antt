pub mod Cells
pub mod Drafts
pub mod Limits
pub mod Numbers
pub mod Parties
pub mod Pieces
