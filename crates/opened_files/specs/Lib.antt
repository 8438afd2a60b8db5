pub mod Ends
pub mod Extents
pub mod HostFiles
pub mod Losses
pub mod Makings
pub mod Rights
