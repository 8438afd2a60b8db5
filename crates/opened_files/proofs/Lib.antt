pub mod HostFiles
pub mod Made
pub mod Near
