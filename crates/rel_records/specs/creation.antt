-- A new file.
pub mod Made
pub mod NewFile
pub mod Room
pub mod Site
