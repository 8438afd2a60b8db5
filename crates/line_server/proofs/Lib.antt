pub mod lemmas
pub mod Cuts
pub mod Kept
pub mod LinesGiven
pub mod Long
pub mod Together
