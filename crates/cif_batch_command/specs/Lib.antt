pub mod Words
pub mod Batching
pub mod Batches
