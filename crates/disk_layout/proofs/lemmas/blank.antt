-- The blank image: what is written, that it is clean, and how far its file can grow.
pub mod BlankClean
pub mod BlankParts
pub mod BlankPlaces
pub mod BlankTop
pub mod BlankWhole
pub mod Blanks
pub mod FreeAndOwned
pub mod Freeing
pub mod Tops
