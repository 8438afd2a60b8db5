-- What can be rescued of the files of a disk, written to a folder that is new.
pub mod Art
pub mod Deleted
pub mod Errors
pub mod Folders
pub mod Geos
pub mod Index
pub mod LongCvt
pub mod Memory
pub mod Named
pub mod Rescues
pub mod Scanned
pub mod Sharing
