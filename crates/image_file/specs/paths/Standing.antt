-- What stands at the paths of a host. Our own.
use Rattle.std.specs.Prelude.{◌≡◌, ℕ, List, Option, Some}

-- what a host says of a path, for as long as it is used
pub data Stands : Type 0 where
  -- it says nothing
  Unsaid : Stands
  -- no file is there
  Missing : Stands
  -- a file is there that has these bytes
  Holds : List ℕ → Stands

module _ {H : Type 0} (stands : H → List ℕ → Stands) (host : H) where
  -- no file is at a path
  abbrev pub IsMissing : List ℕ → Type 0
  IsMissing path = stands host path ≡ Missing

  -- if the host says which bytes the file at a path has, these are they
  abbrev pub AreOf : List ℕ → Option (List ℕ) → Type 0
  AreOf path bytes = (all : List ℕ) → stands host path ≡ Holds all → bytes ≡ Some all
