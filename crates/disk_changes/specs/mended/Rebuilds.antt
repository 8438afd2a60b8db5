-- What comes of rebuilding the side sectors of a disk, and what is printed of it. Our own.
use Rattle.std.specs.Prelude.{◌≡◌, ◌≢◌, ◌⊎◌, ℕ, List, Option, length}
use Rattle.std.specs.Io.KnownBytes.{Appends}
use Rattle.d64_image.specs.History.{Failed, HeldOnly, History, WritesNothing}
use Rattle.d64_image.specs.Images.{sector}
use Rattle.disk_layout.specs.Directory.{map_place}
use Rattle.disk_layout.specs.Fault.{Holds, nowhere}
use Rattle.disk_layout.specs.Layout.{IsSound}
use Rattle.disk_changes.specs.mended.Kinds.{HasFormatByte, HasGeosSign, IsPlainDisk}
use Rattle.command_faults.specs.Outputs.{HandsPart}
use Rattle.disk_changes.specs.mended.Repairs.{changed_text}
use Rattle.command_faults.specs.declared.faults.CommandFault.{CommandFault}
use Rattle.command_faults.specs.declared.faults.CommandFault.TheVariants as faults
use Rattle.damaged_files.specs.sides.Rebuilt.{IsRebuilt, IsUnderRebuilding}

-- Whatever the disk held on the way is the first image, or has its directory and its chains with all bytes: only side
-- sectors differ.
pub record IsRebuildRun {D : Type 0} (S : History D) (image : List ℕ) (old new : D) : Type 0 where
  pub size : length image ≡ 174848
  pub plain : IsPlainDisk (sector (S.image old) map_place)
  pub moments : HeldOnly S old new (λ c. (c ≡ S.image old) ⊎ IsUnderRebuilding (S.image old) c)
  -- a sound disk isn't written
  pub quiet : IsSound (S.image old) → WritesNothing S old new

-- And the disk is sound.
pub record IsRebuiltDisk {D : Type 0} (S : History D) (image : List ℕ) (old new : D) : Type 0 where
  pub run : IsRebuildRun S image old new
  pub rebuilt : IsRebuilt (S.image old) (S.image new)

-- the side sectors were rebuilt, and which of them changed was printed
pub record IsRebuildDone {D W : Type 0} (S : History D) (contents : W → Option (List ℕ)) (image : List ℕ) (old new : D)
    (before after : W) : Type 0 where
  pub disk : IsRebuiltDisk S image old new
  pub printed : Appends (contents before) (contents after) (changed_text (S.image old) (S.image new))

-- why the side sectors of a disk aren't rebuilt, or that isn't printed
abbrev pub IsRebuildFault : {D W : Type 0} → History D → List ℕ → D → D → W → W → CommandFault → Type 0
IsRebuildFault S image old new before after faults.ImageSize =
    (length image ≢ 174848) × (new ≡ old) × (after ≡ before)
IsRebuildFault S image old new before after faults.NoMemory =
    (length image ≡ 174848) × (new ≡ old) × (after ≡ before)
IsRebuildFault S image old new before after faults.Geos =
    (length image ≡ 174848) × HasGeosSign (sector (S.image old) map_place) × (new ≡ old) × (after ≡ before)
IsRebuildFault S image old new before after faults.Format =
    (length image ≡ 174848) × ¬ (HasFormatByte (sector (S.image old) map_place)) × (new ≡ old) × (after ≡ before)
IsRebuildFault S image old new before after (faults.Layout fault) =
    (length image ≡ 174848) × IsPlainDisk (sector (S.image old) map_place) × Holds nowhere (S.image old) fault
    × (new ≡ old) × (after ≡ before)
-- the output failed: the side sectors are rebuilt
IsRebuildFault S image old new before after faults.File = IsRebuiltDisk S image old new
IsRebuildFault S image old new before after faults.Device = IsRebuildRun S image old new × Failed S old new
IsRebuildFault S image old new before after _ = ⊥

-- What was printed then: nothing, or a beginning of the lines of the disk as it is rebuilt.
abbrev pub IsRebuildPart : {D W : Type 0} → History D → (W → Option (List ℕ)) → List ℕ → D → D → W → W → Type 0
IsRebuildPart S contents image old new before after = (after ≡ before)
    ⊎ (IsRebuiltDisk S image old new
    × HandsPart (contents before) (contents after) (changed_text (S.image old) (S.image new)))
