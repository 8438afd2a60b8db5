-- Files that are as long as the disk says.
pub mod Ends
pub mod Files
