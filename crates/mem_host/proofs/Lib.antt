pub mod Filmed
pub mod Played
