-- What a run of events, or of a script, comes to.
pub mod Runs
pub mod Faults
pub mod ScriptRuns
pub mod Chains
pub mod Loops
pub mod EventPlays
pub mod Outputs
pub mod Lent
