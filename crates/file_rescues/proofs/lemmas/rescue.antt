-- What can be rescued of the files of a disk, written to a folder that is new.
pub mod Counts
pub mod Cvt
pub mod Extracted
pub mod Inside
pub mod LongCvt
pub mod Made
pub mod Parts
pub mod Reached
pub mod PastShared
pub mod Scanned
pub mod Undeleted
