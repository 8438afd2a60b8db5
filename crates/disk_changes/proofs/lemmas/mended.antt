pub mod Mendings
pub mod OtherKinds
pub mod Rebuilds
pub mod Repairs
pub mod SameRepairs
