pub mod Buckets
pub mod Columns
