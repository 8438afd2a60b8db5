-- What writes leave alone.
pub mod Kept
pub mod Orders
pub mod Others
pub mod OtherWrites
