-- What comes of a deletion on the disk in memory.
use Rattle.std.proofs.Common.{◌≡◌, ⊎_elim, ℕ, List, Ok, Err, inr, refl, subst, sym}
use Rattle.std.specs.Prelude.{codes}
use Rattle.d64_image.specs.Images.{Image}
use Rattle.d64_image.specs.Memory.{disk_image, memory, sectors_in}
use Rattle.d64_image.specs.declared.mem_disk.MemDisk.{MemDisk}
use Rattle.damaged_files.specs.declared.sides.planning.Loss.{Loss}
use Rattle.disk_changes.proofs.Judged.{never-fails}
use Rattle.disk_changes.specs.Deletes.{IsDeleted, IsUndeletedFor}
use Rattle.disk_changes.specs.Judged.{IsAcceptedFor, IsUsableDisk}
use Rattle.disk_changes.specs.declared.changes.Changed.{Changed}
use Rattle.command_faults.specs.declared.faults.CommandFault.TheVariants as faults
use Rattle.disk_layout.specs.Layout.{IsLayout}
use Rattle.file_changes.specs.Deletes.{Deletes, HasFreed}
use Rattle.command_faults.specs.declared.faults.CommandFault.{CommandFault}
use Rattle.disk_changes.specs.ShopFiles.{HasShopFile}

module _ (image name : List ℕ) (used : Loss) (a b : MemDisk) (whole : IsUsableDisk image used) (is : disk_image a ≡ sectors_in image)
  where
    sound : IsLayout (disk_image a) whole.layout
    sound = subst (λ (i : Image). IsLayout i whole.layout) (sym is) whole.usable.clean.layout

    pub delete-done : (x : Unit {0}) → Deletes memory a b name (Ok x) → ¬ (HasShopFile image name) → (made : Changed)
        → made.disk ≡ b → made.text.items ≡ codes "DELETED\n" → (cut : Loss) → IsAcceptedFor image name cut used
        → IsDeleted image name cut made
    delete-done x c other made disk text cut accepted = record {
      used = used;
      accepted = accepted;
      before = whole;
      other = other;
      after = subst (λ (d : MemDisk). HasFreed (sectors_in image) whole.layout name (disk_image d)) (sym disk)
          (subst (λ (i : Image). HasFreed i whole.layout name (disk_image b)) is (c.layout whole.layout sound).ok);
      text = text;
    }

    pub delete-refused : (fault : CommandFault) → Deletes memory a b name (Err fault)
        → IsUndeletedFor image name used fault
    delete-refused faults.NoFile c = record { disk = whole; but = inr ((c.layout whole.layout sound).not_found refl) }
    delete-refused faults.Locked c = record { disk = whole; but = (c.layout whole.layout sound).locked refl }
    delete-refused faults.Device c = absurd (never-fails a b c.failures)
    delete-refused _ c = absurd (⊎_elim (λ e. cc) (⊎_elim (λ e. cc) (λ e. cc)) c.told)
