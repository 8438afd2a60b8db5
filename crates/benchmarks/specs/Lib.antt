pub mod Asked
pub mod Rounds
pub mod Tallies
pub mod Walks
