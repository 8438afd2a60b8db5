pub mod Faults
pub mod Outputs
