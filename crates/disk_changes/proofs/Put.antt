-- What comes of putting a file on the disk in memory.
use Rattle.std.proofs.Common.{◌≡◌, ⊎_elim, ℕ, List, Ok, Err, length, refl, subst, sym}
use Rattle.std.specs.Prelude.{codes}
use Rattle.d64_image.specs.Images.{Image}
use Rattle.d64_image.specs.Memory.{disk_image, memory, sectors_in}
use Rattle.d64_image.specs.declared.mem_disk.MemDisk.{MemDisk}
use Rattle.damaged_files.specs.declared.sides.planning.Loss.{Loss}
use Rattle.disk_changes.proofs.Judged.{never-fails}
use Rattle.disk_changes.specs.Judged.{IsUsableDisk}
use Rattle.disk_changes.specs.Puts.{IsPut, IsPutRefusal}
use Rattle.disk_changes.specs.declared.changes.Changed.{Changed}
use Rattle.command_faults.specs.declared.faults.CommandFault.TheVariants as faults
use Rattle.disk_layout.specs.Layout.{IsLayout}
use Rattle.file_changes.specs.Puts.{HasPut, Puts, sectors_for, stored}
use Rattle.command_faults.specs.declared.faults.CommandFault.{CommandFault}
use Rattle.file_changes.specs.declared.file_type.FileType.{FileType}
use Rattle.rel_records.specs.creation.Made.{HasNoRoomFor}

module _ (image name : List ℕ) (kind : FileType) (content : List ℕ) (cut : Loss) (a b : MemDisk) (whole : IsUsableDisk image cut)
    (is : disk_image a ≡ sectors_in image) where
  sound : IsLayout (disk_image a) whole.layout
  sound = subst (λ (i : Image). IsLayout i whole.layout) (sym is) whole.usable.clean.layout

  pub put-done : (x : Unit {0}) → Puts memory a b name kind content (Ok x) → (made : Changed) → made.disk ≡ b
      → made.text.items ≡ codes "PUT\n" → IsPut image name kind content cut made
  put-done x c made disk text = record {
    before = whole;
    after = subst (λ (d : MemDisk). HasPut (sectors_in image) whole.layout name kind (stored content) (disk_image d)) (sym disk)
        (subst (λ (i : Image). HasPut i whole.layout name kind (stored content) (disk_image b)) is
        (c.layout whole.layout sound).ok);
    text = text;
  }

  pub put-refused : (fault : CommandFault) → Puts memory a b name kind content (Err fault)
      → IsPutRefusal image name kind content cut fault
  put-refused faults.FileExists c = record { disk = whole; but = (c.layout whole.layout sound).refuses.exists refl }
  put-refused faults.DiskFull c =
      let full = (c.layout whole.layout sound).refuses.full refl in
      record {
        disk = whole;
        but = (subst (λ (i : Image). HasNoRoomFor i whole.layout (sectors_for (length (stored content)))) is full.0, full.1);
      }
  put-refused faults.Device c = absurd (never-fails a b c.failures)
  put-refused _ c = absurd (⊎_elim (λ e. cc) (⊎_elim (λ e. cc) (λ e. cc)) c.told)
