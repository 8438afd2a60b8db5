pub mod logged
pub mod Batches
pub mod Read
pub mod Scripts
