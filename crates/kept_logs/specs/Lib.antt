pub mod Files
pub mod Logs
