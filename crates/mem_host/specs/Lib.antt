pub mod Film
pub mod Moves
