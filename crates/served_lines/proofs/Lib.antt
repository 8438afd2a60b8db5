pub mod Batches
pub mod Committed
pub mod Lines
pub mod Printed
pub mod Read
pub mod Worlds
pub mod Opened
