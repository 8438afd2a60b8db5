pub mod ChangedOver
pub mod EditRead
pub mod Held
pub mod NewMade
pub mod Salvaged
