-- What comes of a repair of the disk in memory.
use Rattle.std.proofs.Common.{◌≡◌, ◌∙◌, List, ap, false, inl, inr, length, subst, sym, ℕ, ⊎_elim}
use Rattle.std.specs.Prelude.{Bool, Option}
use Rattle.command_faults.specs.declared.faults.CommandFault.{CommandFault}
use Rattle.command_faults.specs.declared.faults.CommandFault.TheVariants as faults
use Rattle.d64_image.specs.Images.{Image, sector}
use Rattle.d64_image.specs.Memory.{disk_image, memory, sectors_in}
use Rattle.d64_image.specs.declared.mem_disk.MemDisk.{MemDisk}
use Rattle.disk_changes.proofs.Judged.{never-fails}
use Rattle.disk_changes.specs.Judged.{in_memory}
use Rattle.disk_changes.specs.Repairs.{IsMended, IsMendRefusal, IsRepairRefusal, IsRepaired, IsUnsettled}
use Rattle.disk_changes.specs.Undeletes.{IsNotRight, IsUndeleteRefusal}
use Rattle.disk_changes.specs.declared.entry_types.EntryType.{EntryType}
use Rattle.damaged_files.specs.declared.sides.planning.Loss.{Loss}
use Rattle.damaged_files.specs.declared.sides.planning.Loss.TheVariants.{Accepted, Refused}
use Rattle.disk_changes.specs.declared.changes.Changed.{Changed}
use Rattle.disk_layout.specs.Directory.{map_place}
use Rattle.disk_layout.specs.Fault.{Holds, nowhere}
use Rattle.disk_changes.specs.mended.Kinds.{HasFormatByte, HasGeosSign, IsPlainDisk}
use Rattle.disk_changes.specs.mended.Repairs.{IsMendedAs, IsRepairDone, IsRepairFault, mended_text}
use Rattle.layout_check.specs.RepairOrder.{ClearsSpare}

module _ (image : List ℕ) (free : Bool) (a b : MemDisk) (size : length image ≡ 174848)
    (is : disk_image a ≡ sectors_in image) {W : Type 0} (w : W) where
  pub repair-done : (contents : W → Option (List ℕ)) (v : W) (made : Changed) → made.disk ≡ b
      → IsRepairDone free memory contents image a b w v made.left
      → made.text.items ≡ mended_text (disk_image a) (disk_image b) made.left → IsMended image free made
  repair-done contents v made disk c text = record {
    size = size;
    plain = subst (λ (i : Image). IsPlainDisk (sector i map_place)) is c.mended.run.plain;
    mended = subst (λ (d : MemDisk). IsMendedAs free (sectors_in image) (disk_image d) made.left) (sym disk)
        (subst (λ (i : Image). IsMendedAs free i (disk_image b) made.left) is c.mended.mended);
    spare = subst (λ (d : MemDisk). ClearsSpare (sectors_in image) (disk_image d)) (sym disk)
        (subst (λ (i : Image). ClearsSpare i (disk_image b)) is c.mended.spare);
    text = text
        ∙ ap (λ (i : Image). mended_text i (disk_image b) made.left) is
        ∙ ap (λ (d : MemDisk). mended_text (sectors_in image) (disk_image d) made.left) (sym disk);
  }

  pub repair-refused : (v : W) (fault : CommandFault) → IsRepairFault free memory image a b w v fault
      → IsMendRefusal image (in_memory fault)
  repair-refused v faults.ImageSize c = c.0
  repair-refused v faults.NoMemory c = c.0
  repair-refused v faults.Geos c = (c.0, subst (λ (i : Image). HasGeosSign (sector i map_place)) is c.1)
  repair-refused v faults.Format c = (c.0, λ has. c.1 (subst (λ (i : Image). HasFormatByte (sector i map_place)) (sym is) has))
  repair-refused v (faults.Layout fault) c = (c.0, subst (λ (i : Image). Holds nowhere i fault) is c.2)
  repair-refused v faults.File c = size
  repair-refused v faults.Device c = absurd (never-fails a b c.1)
  repair-refused v _ c = absurd c

-- what refuses a repair in memory is neither the output nor the device
module _ (image : List ℕ) (free : Bool) where
  unsettled-output : IsUnsettled image free faults.File → ⊥
  unsettled-output (bytes, settled, inl why) = why
  unsettled-output (bytes, settled, inr (made, mended, why)) = why

  unsettled-device : IsUnsettled image free faults.Device → ⊥
  unsettled-device (bytes, settled, inl why) = why
  unsettled-device (bytes, settled, inr (made, mended, why)) = why

  no-output : (cut : Loss) → IsRepairRefusal image free cut faults.File → ⊥
  no-output Refused (inl why) = why
  no-output Refused (inr (inl why)) = why
  no-output Refused (inr (inr (is, geos))) = cc
  no-output Accepted (inl why) = why
  no-output Accepted (inr why) = unsettled-output why

  no-device : (cut : Loss) → IsRepairRefusal image free cut faults.Device → ⊥
  no-device Refused (inl why) = why
  no-device Refused (inr (inl why)) = why
  no-device Refused (inr (inr (is, geos))) = cc
  no-device Accepted (inl why) = why
  no-device Accepted (inr why) = unsettled-device why

  pub repaired-in-memory : (cut : Loss)
      → (IsRepairRefusal image free cut faults.File → ⊥) × (IsRepairRefusal image free cut faults.Device → ⊥)
  repaired-in-memory cut = (no-output cut, no-device cut)

-- the same of an entry that is made one of a file again
not-right-output : (bytes : List ℕ) (cut : Loss) → IsNotRight bytes cut faults.File → ⊥
not-right-output bytes Refused why = (repaired-in-memory bytes false Refused).0 why
not-right-output bytes Accepted why = why

not-right-device : (bytes : List ℕ) (cut : Loss) → IsNotRight bytes cut faults.Device → ⊥
not-right-device bytes Refused why = (repaired-in-memory bytes false Refused).1 why
not-right-device bytes Accepted why = why

pub undeleted-in-memory : (image name : List ℕ) (kind : EntryType) (cut : Loss)
    → (IsUndeleteRefusal image name kind cut faults.File → ⊥) × (IsUndeleteRefusal image name kind cut faults.Device → ⊥)
undeleted-in-memory image name kind cut = (
  λ why. ⊎_elim (λ none. ⊎_elim (λ w. w) (λ w. w) none) (λ w. not-right-output w.0 cut w.2) why,
  λ why. ⊎_elim (λ none. ⊎_elim (λ w. w) (λ w. w) none) (λ w. not-right-device w.0 cut w.2) why,
)
