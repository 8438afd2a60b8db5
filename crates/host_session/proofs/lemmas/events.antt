-- One event of a run.
pub mod Parts
pub mod Quiet
pub mod Cuts
pub mod WholeMessages
pub mod Printed
pub mod Reports
