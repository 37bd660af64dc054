pub mod Agreement
pub mod Checked
pub mod Loop
pub mod Outputs
pub mod Rows
pub mod Truths
