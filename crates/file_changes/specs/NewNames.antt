-- The names that new files can have. Our own.
use Rattle.std.specs.Prelude.{◌≢◌, ◌≤◌, ℕ, ◌-◌, List, length, slice_index}

-- a name that a new file can have: 1 to 16 bytes, the last of which isn't the shifted space that fills up a slot's name
pub record IsNewName (name : List ℕ) : Type 0 where
  pub some : 1 ≤ length name
  pub few : length name ≤ 16
  pub last : slice_index name (length name - 1) ≢ 160
