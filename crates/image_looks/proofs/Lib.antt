pub mod Compared
pub mod EachTold
pub mod ExtractSaid
pub mod Listed
pub mod Looked
pub mod NewFolders
pub mod Reported
