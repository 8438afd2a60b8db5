-- What may be done with the files of a host, by their paths. Our own.
use Rattle.std.specs.Prelude.{◌≡◌, ℕ, Bool, List, true}

-- what is done with the file at a path
pub data Use : Type 0 where
  -- the system is asked what stands there, where the path leads, whether the file there may be changed, or to sync the
  -- folder's names
  Look : Use
  -- it is opened to be read
  Read : Use
  -- it is opened to be written; it is neither made nor cut
  Write : Use
  -- a file or a folder is made there, where nothing stood
  Make : Use
  -- another file gets this name, in the place of the file that had it
  Replace : Use
  -- its name is taken away
  Remove : Use

-- What may be done with the files of a host. The system's allows all.
pub record Rights (H : Type 0) : Type 0 where
  pub may : H → Use → List ℕ → Bool
  -- the system may say that a path leads to another
  pub leads : H → List ℕ → List ℕ → Bool

module _ {H : Type 0} (rights : Rights H) (host : H) where
  -- this may be done with the file at a path
  abbrev pub May : Use → List ℕ → Type 0
  May how path = rights.may host how path ≡ true

  -- a regular file may be opened to be read
  abbrev pub MayRead : List ℕ → Type 0
  MayRead path = May Look path × May Read path

  -- a regular file may be opened to be written
  abbrev pub MayWrite : List ℕ → Type 0
  MayWrite path = May Look path × May Write path
