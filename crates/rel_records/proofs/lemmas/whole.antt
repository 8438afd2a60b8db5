-- Files that are as long as the disk says.
pub mod Created
pub mod Files
pub mod Filled
pub mod Linked
pub mod Prepared
pub mod Written
