-- Records in the joined bytes of a file.
pub mod EmptyRecords
pub mod Fillers
pub mod Joined
pub mod Pieces
pub mod RecordWrites
