-- Growth as a whole: what is read of the file, and what its steps leave together.
pub mod Ends
pub mod Gathered
pub mod Gathers
pub mod GrownTo
pub mod Grows
pub mod Listed
pub mod RunCosts
pub mod Running
