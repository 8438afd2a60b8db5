-- What comes of a renaming on the disk in memory.
use Rattle.std.proofs.Common.{◌≡◌, ⊎_elim, ℕ, List, Ok, Err, inr, refl, subst, sym}
use Rattle.std.specs.Prelude.{codes}
use Rattle.d64_image.specs.Images.{Image}
use Rattle.d64_image.specs.Memory.{disk_image, memory, sectors_in}
use Rattle.d64_image.specs.declared.mem_disk.MemDisk.{MemDisk}
use Rattle.disk_changes.proofs.Judged.{never-fails}
use Rattle.disk_changes.specs.Judged.{IsSoundDisk}
use Rattle.disk_changes.specs.Renames.{IsRenameRefusal, IsRenamed}
use Rattle.disk_changes.specs.declared.changes.Changed.{Changed}
use Rattle.command_faults.specs.declared.faults.CommandFault.TheVariants as faults
use Rattle.disk_layout.specs.Layout.{IsLayout}
use Rattle.file_changes.specs.Renames.{HasNewName, Renames}
use Rattle.command_faults.specs.declared.faults.CommandFault.{CommandFault}
use Rattle.disk_changes.specs.ShopFiles.{HasShopFile}

module _ (image from to : List ℕ) (a b : MemDisk) (whole : IsSoundDisk image) (is : disk_image a ≡ sectors_in image) where
  sound : IsLayout (disk_image a) whole.layout
  sound = subst (λ (i : Image). IsLayout i whole.layout) (sym is) whole.sound

  pub rename-done : (x : Unit {0}) → Renames memory a b from to (Ok x) → ¬ (HasShopFile image from) → (made : Changed)
      → made.disk ≡ b → made.text.items ≡ codes "RENAMED\n" → IsRenamed image from to made
  rename-done x c other made disk text = record {
    before = whole;
    other = other;
    after = subst (λ (d : MemDisk). HasNewName (sectors_in image) whole.layout from to (disk_image d)) (sym disk)
        (subst (λ (i : Image). HasNewName i whole.layout from to (disk_image b)) is (c.layout whole.layout sound).ok);
    text = text;
  }

  pub rename-refused : (fault : CommandFault) → Renames memory a b from to (Err fault)
      → IsRenameRefusal image from to fault
  rename-refused faults.NoFile c = record { disk = whole; but = inr ((c.layout whole.layout sound).not_found refl) }
  rename-refused faults.FileExists c = record { disk = whole; but = (c.layout whole.layout sound).exists refl }
  rename-refused faults.Device c = absurd (never-fails a b c.failures)
  rename-refused _ c = absurd (⊎_elim (λ e. cc) (⊎_elim (λ e. cc) (λ e. cc)) c.told)
