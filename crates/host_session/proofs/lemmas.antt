-- The lemmas, by what they are about.
pub mod Held
pub mod shop
pub mod judging
pub mod writing
pub mod growing
pub mod opening
pub mod session
pub mod events
pub mod runs
