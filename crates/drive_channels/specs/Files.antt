-- A relative file of an image, and what the tables need to know of it. Our own.
use Rattle.std.specs.Prelude.{ℕ, ◌≡◌, ◌≢◌, IsTrue, List, None, Option, Some, slice_get}
use Rattle.d64_image.specs.Images.{Image}
use Rattle.disk_layout.specs.Layout.{File, IsLayout, Layout, is_rel, record_length}
use Rattle.disk_layout.specs.Rest.{IsFirst}
use Rattle.rel_records.specs.creation.Made.{HasFileMore, HasNoRoom, IsTakenName}

-- l is the image's layout, and f its relative file with this entry
pub record IsRelAt (img : Image) (l : Layout) (entry : ℕ) (f : File) : Type 0 where
  pub layout : IsLayout img l
  pub there : slice_get l.files entry ≡ Some f
  pub rel : IsTrue (is_rel f.slot)

-- f, with this entry, is the first closed relative file of the name
abbrev pub IsNamedFile : Image → List ℕ → ℕ → File → Type 0
IsNamedFile img name entry f = (l : Layout) × IsLayout img l × IsFirst l name entry f

-- there is a closed relative file of the name
abbrev pub HasFile : Image → List ℕ → Type 0
HasFile img name = (entry : ℕ) × (f : File) × IsNamedFile img name entry f

-- there is one, with another record length than the one given
abbrev pub HasOther : Image → List ℕ → Option ℕ → Type 0
HasOther img name None = ⊥
HasOther img name (Some L) = (entry : ℕ) × (f : File) × IsNamedFile img name entry f × (record_length f.slot ≢ L)

-- the name belongs to an entry, of whatever type
abbrev pub HasEntry : Image → List ℕ → Type 0
HasEntry img name = (l : Layout) × IsLayout img l × IsTakenName l name

-- there is no room for another file: fewer than two free blocks, or no room in the directory
abbrev pub IsNoRoom : Image → Type 0
IsNoRoom img = (l : Layout) × IsLayout img l × HasNoRoom img l

-- new has the files of old and, with this entry, one more, of this name and record length, in the first slot that was
-- free
pub record Makes (old new : Image) (name : List ℕ) (L entry : ℕ) : Type 0 where
  pub layout : Layout
  pub is_layout : IsLayout old layout
  pub more : HasFileMore old layout name L new
  pub there : slice_get more.layout.files entry ≡ Some more.file
