-- What may be done with files, by their paths. Our own.
use Rattle.std.specs.Prelude.{◌≡◌, ℕ, Bool, List, true}
use Rattle.one_host.specs.declared.parts.Access.{Access}
use Rattle.one_host.specs.declared.parts.Access.TheVariants as access

-- what is done with the file at a path
pub data Use : Type 0 where
  -- the system is asked what stands there, where the path leads, or to sync the folder's names
  Look : Use
  -- it is opened to be read
  Read : Use
  -- it is opened to be written; it is neither made nor cut
  Write : Use
  -- a file or a folder is made there, where nothing stood
  Make : Use
  -- another file gets this name, in the place of the file that had it
  Replace : Use
  -- its name is taken away
  Remove : Use

-- What may be done with files. The system allows all; code that is proved over any host does only what its own contract has
-- rights for.
pub record Rights : Type 0 where
  pub may : Use → List ℕ → Bool
  -- the system may say that a path leads to another
  pub leads : List ℕ → List ℕ → Bool

-- this may be done with the file at a path
abbrev pub May : Rights → Use → List ℕ → Type 0
May rights how path = rights.may how path ≡ true

-- all is allowed
abbrev pub all_rights : Rights
all_rights = record { may = λ _ _. true; leads = λ _ _. true }

-- what opening a file in this way does with it
abbrev pub use_of : Access → Use
use_of access.Read = Read
use_of access.Change = Write
use_of access.Write = Write
