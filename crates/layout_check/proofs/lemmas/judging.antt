-- What is judged of a disk, and told.
pub mod Calls
pub mod Inexact
pub mod Judged
pub mod Verdict
