-- A directory as far as it can be read, of a disk that is hurt too (1541 User's Guide, directory format). Our own.
use Rattle.std.specs.Prelude.{◌≡◌, ◌⊎◌, List, [], ◌∷◌, ◌++◌, Contains, None, Option, Some}
use Rattle.std.specs.List.{AllByRecursion}
use Rattle.d64_image.specs.Images.{Image}
use Rattle.d64_image.specs.declared.place.Place.{Place}
use Rattle.disk_layout.specs.Chain.{EachOnce, Leads, LinksNowhere, LinksTo, byte}
use Rattle.disk_layout.specs.Directory.{IsDirectoryPlace, directory_start, used_slots}
use Rattle.disk_layout.specs.declared.faults.Fault.{Fault}
use Rattle.disk_layout.specs.declared.faults.Fault.TheVariants.{BadLink, Loop}
use Rattle.disk_layout.specs.declared.slot.Slot.{Slot}

-- What ends the directory's sectors at the last one: it ends the chain; or it links to no sector that a directory may
-- have, or back to one of these, as the fault says
abbrev pub DirectoryEnds : Image → List Place → Place → Option Fault → Type 0
DirectoryEnds img ps last None = byte img last 0 ≡ 0
DirectoryEnds img ps last (Some (BadLink p)) =
    (p ≡ last) × (LinksNowhere img last ⊎ ((q : Place) × LinksTo img last q × ¬ (IsDirectoryPlace q)))
DirectoryEnds img ps last (Some (Loop p)) = LinksTo img last p × Contains ps p
DirectoryEnds img ps last (Some _) = ⊥

-- ps are the directory's sectors as far as the links lead from 18/1, in order and each once, up to what ends them; and
-- the entries are their used slots, in order
pub record IsReadSoFar (img : Image) (ps : List Place) (entries : List Slot) (fault : Option Fault) : Type 0 where
  pub front : List Place
  pub last : Place
  pub places : ps ≡ front ++ last ∷ []
  pub leads : Leads img directory_start front last
  pub once : EachOnce ps
  pub on_track : AllByRecursion IsDirectoryPlace ps
  pub ends : DirectoryEnds img ps last fault
  pub slots : entries ≡ used_slots img ps
