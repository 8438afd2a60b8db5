pub mod Called
pub mod Gave
pub mod Paths
pub mod Pieces
pub mod Staged
pub mod Written
