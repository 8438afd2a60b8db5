pub mod Asked
pub mod Tallies
pub mod Walks
