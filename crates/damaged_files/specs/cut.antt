-- Files of a disk that a lost sector cut short.
pub mod Cut
pub mod Geos
pub mod OfName
pub mod Settled
pub mod Told
