-- Programs in BASIC 2.0, the C64's, as text.
pub mod Characters
pub mod Listings
pub mod Places
