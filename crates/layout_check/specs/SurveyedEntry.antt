-- An entry that was surveyed. Our own.
use Rattle.std.specs.Prelude.{ℕ, ◌≡◌, ◌≢◌, ◌⊎◌, ◌*◌, IfErr, IfOk, List, OnOk, Option, Result, length}
use Rattle.d64_image.specs.History.{History}
use Rattle.d64_image.specs.Images.{Image}
use Rattle.d64_image.specs.declared.place.Place.{Place}
use Rattle.disk_layout.specs.Chain.{EachOnce}
use Rattle.disk_layout.specs.Fault.{Owns, blocks_of, sides_of}
use Rattle.disk_layout.specs.Layout.{File, IsFile, file_owns}
use Rattle.disk_layout.specs.declared.faults.Fault.{Fault}
use Rattle.disk_layout.specs.declared.faults.Fault.TheVariants.{OwnedTwice}
use Rattle.disk_layout.specs.declared.slot.Slot.{Slot}
use Rattle.layout_check.specs.Calls.{Passes, TellsUnsound}
use Rattle.layout_check.specs.Entry.{HasBlocks}
use Rattle.layout_check.specs.Exact.{ToldOfFile}
use Rattle.layout_check.specs.Owners.{IsClaimed, owner_of}
use Rattle.layout_check.specs.declared.owners.Owners.{Owners}

-- g is the file of the entry with this slot, and what it owns has got the number n
pub record IsClaimedFile (img : Image) (s : Slot) (n : ℕ) (old new : Owners) (g : File) : Type 0 where
  pub slot : g.slot ≡ s
  pub file : IsFile img g
  pub blocks_once : EachOnce g.blocks
  pub sides_once : EachOnce g.sides
  -- the table with the blocks, before the side sectors
  pub between : Owners
  pub blocks : IsClaimed old between n g.blocks
  pub sides : IsClaimed between new n g.sides

-- a sector of the entry has an owner in the table already
pub record IsClash {D : Type 0} (S : History D) (old new : D) (s : Slot) (t : Owners) (fault : Fault) : Type 0 where
  pub place : Place
  pub told : fault ≡ OwnedTwice place
  pub passes : Passes S old new 732
  pub owned : owner_of t place ≢ 255
  pub has : Owns (S.image old) (blocks_of s) place ⊎ Owns (S.image old) (sides_of s) place

-- the fault holds by what the entry is, or there is a clash with what the table has
abbrev pub TellsOrClashes : {D : Type 0} → History D → D → D → Slot → Owners → Fault → Type 0
TellsOrClashes S old new s t fault = TellsUnsound S old new 732 fault ⊎ IsClash S old new s t fault

-- the data blocks of the entry were found, and each got the number n when the walk came to it
pub record ClaimsBlocks {D : Type 0} (S : History D) (old new : D) (s : Slot) (n : ℕ) (t u : Owners) (ps : List Place)
    (result : Result ℕ Fault) : Type 0 where
  pub blocks : IfOk result (HasBlocks (S.image old) s ps)
  pub claimed : OnOk result (IsClaimed t u n ps)
  pub ok : OnOk result (Passes S old new (length ps))
  pub err : IfErr result (TellsOrClashes S old new s t)

-- the call found the file of the entry, read each of its sectors at most twice, and checked whether it is exact
abbrev pub SurveysEntry : {D : Type 0} → History D → D → D → Slot → ℕ → Owners → Owners → Option Fault → Type 0
SurveysEntry S old new s n t u unclean = (g : File) × IsClaimedFile (S.image old) s n t u g
    × ToldOfFile (S.image old) g unclean × Passes S old new (2 * length (file_owns g))
