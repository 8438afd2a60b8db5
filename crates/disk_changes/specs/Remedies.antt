-- What can be done for a disk: a repair that ends so. Our own.
use Rattle.std.specs.Prelude.{◌≡◌, [], Bool, List, false, length, true, ℕ}
use Rattle.command_faults.specs.declared.faults.CommandFault.{CommandFault}
use Rattle.command_faults.specs.declared.faults.CommandFault.TheVariants as faults
use Rattle.d64_image.specs.Memory.{sectors_in}
use Rattle.d64_image.specs.declared.place.Place.{Place}
use Rattle.damaged_files.specs.cut.Told.{IsCutShort}
use Rattle.damaged_files.specs.declared.sides.planning.Loss.{Loss}
use Rattle.damaged_files.specs.declared.sides.planning.Loss.TheVariants.{Accepted, Refused}
use Rattle.disk_changes.specs.Changes.{IsChangedBy, IsUnchangedBy}
use Rattle.disk_changes.specs.Judged.{HasStraysAlone}
use Rattle.disk_changes.specs.declared.changes.ChangeKind.{ChangeKind}
use Rattle.disk_changes.specs.declared.changes.ChangeKind.TheVariants as kinds
use Rattle.disk_changes.specs.declared.changes.Changed.{Changed}
use Rattle.disk_changes.specs.declared.changes.Unowned.TheVariants.{Freed, Kept}
use Rattle.disk_changes.specs.declared.remedies.Remedy.{Remedy}
use Rattle.disk_changes.specs.declared.remedies.Remedy.TheVariants as remedies
use Rattle.disk_changes.specs.declared.remedies.Way.{Way}
use Rattle.disk_changes.specs.declared.remedies.Way.TheVariants as ways
use Rattle.disk_layout.specs.Clean.{IsClean}

-- the change that a way of repairing asks for
abbrev pub kind_by : Way → ChangeKind
kind_by ways.Plain = kinds.Repair Kept
kind_by ways.Sides = kinds.RepairSides Kept
kind_by ways.Settled = kinds.Repair Kept
kind_by ways.SidesSettled = kinds.RepairSides Kept
kind_by ways.Freeing = kinds.Repair Freed
kind_by ways.FreeingSettled = kinds.Repair Freed

-- whether it accepts a loss
abbrev pub loss_by : Way → Loss
loss_by ways.Settled = Accepted
loss_by ways.SidesSettled = Accepted
loss_by ways.FreeingSettled = Accepted
loss_by _ = Refused

-- this repair of the image ends so: as many sectors are left
abbrev pub EndsBy : (image : List ℕ) → Way → (left : ℕ) → Type 0
EndsBy image way left = (made : Changed) × IsChangedBy (kind_by way) (loss_by way) [] image made × (made.left ≡ left)

-- there was no memory
abbrev pub IsLackOfMemory : CommandFault → Type 0
IsLackOfMemory why = why ≡ faults.NoMemory

-- this repair of the image is refused for this reason, and not because there was no memory to try it
pub record IsRefusedBy (image : List ℕ) (way : Way) (why : CommandFault) : Type 0 where
  pub refused : IsUnchangedBy (kind_by way) (loss_by way) [] image why
  pub tried : ¬ (IsLackOfMemory why)

-- it is refused
abbrev pub IsRefusedWay : (image : List ℕ) → Way → Type 0
IsRefusedWay image way = (why : CommandFault) × IsRefusedBy image way why

-- no file of the image is cut short
abbrev pub HasNoneCut : (image : List ℕ) → Type 0
HasNoneCut image = (p : Place) → ¬ (IsCutShort image p)

-- nothing has to be done for the image: its disk is clean, and no file of it is cut short
pub record IsWhole (image : List ℕ) : Type 0 where
  pub size : length image ≡ 174848
  pub clean : IsClean (sectors_in image)
  pub uncut : HasNoneCut image

-- each way that is tried before this one is refused; the two that free sectors aren't tried as the first that helps
abbrev pub IsFirstWay : (image : List ℕ) → Way → Type 0
IsFirstWay image ways.Plain = Unit {0}
IsFirstWay image ways.Sides = IsRefusedWay image ways.Plain
IsFirstWay image ways.Settled = IsRefusedWay image ways.Plain × IsRefusedWay image ways.Sides
IsFirstWay image ways.SidesSettled =
    IsRefusedWay image ways.Plain × (IsRefusedWay image ways.Sides × IsRefusedWay image ways.Settled)
IsFirstWay image _ = ⊥

-- `repair --free` of the image can be made, or can't
abbrev pub IsFreedBy : (image : List ℕ) → Bool → Type 0
IsFreedBy image true = (none : ℕ) × EndsBy image ways.Freeing none
IsFreedBy image false = IsRefusedWay image ways.Freeing

-- what can be done for the disk of the image holds
abbrev pub IsRemedy : (image : List ℕ) → Remedy → Type 0
IsRemedy image remedies.Nothing = IsWhole image
IsRemedy image (remedies.Strays left freed) = ¬ (IsWhole image) × (EndsBy image ways.Plain left
    × (HasStraysAlone (sectors_in image) × IsFreedBy image freed))
IsRemedy image (remedies.Repair way left) = ¬ (IsWhole image) × (IsFirstWay image way × EndsBy image way left)
IsRemedy image (remedies.Rescue why) =
    ¬ (IsWhole image) × (IsFirstWay image ways.SidesSettled × IsRefusedBy image ways.SidesSettled why)
