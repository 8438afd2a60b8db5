-- Files of the system that are read at places. Our own.
use Rattle.std.specs.Prelude.{◌≡◌, ℕ, IfSome, List, Option, Some}
use Rattle.std.specs.Io.KnownBytes.{Consumes, Keeps}

-- A file was sought to a place, and then reads gave these bytes of it.
pub record AreReadAt {F : Type 0} (remaining : F → Option (List ℕ)) (position : F → Option ℕ) (bytes : F → Option (List ℕ))
    (old new : F) (place : ℕ) (got : List ℕ) : Type 0 where
  pub sought : F
  pub at : IfSome (position old) (λ _. position sought ≡ Some place)
  pub same : Keeps (bytes old) (bytes sought)
  pub gives : Consumes (remaining sought) (remaining new) got
