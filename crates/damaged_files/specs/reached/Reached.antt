-- What can be reached of a file, and the fault that ends it (1541 User's Guide, how files are stored). Which fault is
-- returned is our own.
use Rattle.std.specs.Prelude.{◌≡◌, ◌⊎◌, ℕ, List, [], ◌∷◌, ◌++◌, Contains, IsFalse, None, Option, Some, slice_index}
use Rattle.d64_image.specs.Images.{Image}
use Rattle.d64_image.specs.declared.place.Place.{Place}
use Rattle.disk_layout.specs.Chain.{EachOnce, EndsAt, Leads, LinksNowhere, LinksTo, Names, NamesNone}
use Rattle.disk_layout.specs.Layout.{is_rel}
use Rattle.disk_layout.specs.declared.faults.Fault.{Fault}
use Rattle.disk_layout.specs.declared.faults.Fault.TheVariants.{BadLink, Loop}
use Rattle.disk_layout.specs.declared.slot.Slot.{Slot}

-- What ends a walk over these sectors at the last one. Without a fault it ends the chain, and u is the index of its last
-- used byte. With a fault all of its bytes, up to index 255, are taken for the file's. Then it links to no place of the
-- disk, or back to one of these sectors, and the fault names that one.
abbrev pub Ends : Image → List Place → Place → Option Fault → ℕ → Type 0
Ends img ps last None u = EndsAt img last u
Ends img ps last (Some (BadLink p)) u = (p ≡ last) × LinksNowhere img last × (u ≡ 255)
Ends img ps last (Some (Loop p)) u = LinksTo img last p × Contains ps p × (u ≡ 255)
Ends img ps last (Some _) u = ⊥

-- ps are the sectors that the links from p come to, in order and each once, up to what ends them
pub record IsReach (img : Image) (p : Place) (ps : List Place) (fault : Option Fault) (u : ℕ) : Type 0 where
  pub front : List Place
  pub last : Place
  pub places : ps ≡ front ++ last ∷ []
  pub leads : Leads img p front last
  pub once : EachOnce ps
  pub ends : Ends img ps last fault u

-- the entry names no block, and needn't, since it isn't relative
abbrev pub NamesNoBlock : Slot → Type 0
NamesNoBlock s = IsFalse (is_rel s) × (slice_index s.bytes 3 ≡ 0)

-- These blocks of the entry's file can be reached. If the entry names no block, there are none: without a fault if it
-- needs none, and with BadLink at its directory sector if it should name one.
abbrev pub IsReached : Image → Slot → List Place → Option Fault → ℕ → Type 0
IsReached img s ps fault u =
    (NamesNoBlock s × (ps ≡ []) × (fault ≡ None) × (u ≡ 0))
    ⊎ (¬ (NamesNoBlock s) × NamesNone s.bytes 3 × (ps ≡ []) × (fault ≡ Some (BadLink s.sector)) × (u ≡ 0))
    ⊎ ((p : Place) × Names s.bytes 3 p × IsReach img p ps fault u)
