pub mod JobRights
pub mod JobRuns
pub mod Jobs
