-- A new file.
pub mod Creating
pub mod Entering
pub mod InSector
pub mod InSlot
pub mod Made
pub mod NewClean
pub mod NewFiles
pub mod NewEntry
pub mod NewWrites
pub mod Sites
pub mod StillClean
pub mod TakenNames
pub mod TakenSectors
pub mod Unowned
