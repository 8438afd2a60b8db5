-- What comes of making a relative file on the disk in memory.
use Rattle.std.proofs.Common.{◌≡◌, ◌≢◌, ◌⊎◌, ⊎_elim, ℕ, List, Ok, Err, refl, subst, sym}
use Rattle.std.specs.Prelude.{codes}
use Rattle.d64_image.specs.Images.{Image}
use Rattle.d64_image.specs.Memory.{disk_image, memory, sectors_in}
use Rattle.d64_image.specs.declared.mem_disk.MemDisk.{MemDisk}
use Rattle.damaged_files.specs.declared.sides.planning.Loss.{Loss}
use Rattle.disk_changes.proofs.Judged.{never-fails}
use Rattle.disk_changes.specs.Judged.{IsUsableDisk}
use Rattle.disk_changes.specs.Makes.{IsMade, IsMakeRefusal}
use Rattle.disk_changes.specs.declared.changes.Changed.{Changed}
use Rattle.disk_layout.specs.Layout.{IsLayout}
use Rattle.command_faults.specs.Faults.{record_fault}
use Rattle.rel_records.specs.Calls.{Creates}
use Rattle.rel_records.specs.creation.Made.{HasFileMore, HasNoRoom}
use Rattle.rel_records.specs.declared.faults.RelFault.{RelFault}
use Rattle.rel_records.specs.declared.faults.RelFault.TheVariants as rel
use Rattle.rel_records.specs.declared.rel_file.RelFile.{RelFile}

module _ (image name : List ℕ) (L : ℕ) (cut : Loss) (a b : MemDisk) (whole : IsUsableDisk image cut)
    (is : disk_image a ≡ sectors_in image) where
  sound : IsLayout (disk_image a) whole.layout
  sound = subst (λ (i : Image). IsLayout i whole.layout) (sym is) whole.usable.clean.layout

  pub make-done : (file : RelFile) → Creates memory a b name L (Ok file) → (made : Changed) → made.disk ≡ b
      → made.text.items ≡ codes "MADE\n" → IsMade image name L cut made
  make-done file c made disk text =
      let fits = (c.refuses.layout whole.layout sound).fits in
      record {
        before = whole;
        free = fits.1;
        room = subst (λ (i : Image). ¬ (HasNoRoom i whole.layout)) is fits.0;
        after = subst (λ (d : MemDisk). HasFileMore (sectors_in image) whole.layout name L (disk_image d)) (sym disk)
            (subst (λ (i : Image). HasFileMore i whole.layout name L (disk_image b)) is
            (c.layout whole.layout sound).ok.more);
        text = text;
      }

  no-other : (fault : RelFault) → fault ≢ rel.Exists → fault ≢ rel.Full → fault ≢ rel.Device
      → (fault ≡ rel.Exists) ⊎ ((fault ≡ rel.Full) ⊎ (fault ≡ rel.Device)) → ⊥
  no-other fault x y z told = ⊎_elim x (⊎_elim y z) told

  pub make-refused : (fault : RelFault) → Creates memory a b name L (Err fault)
      → IsMakeRefusal image name cut (record_fault fault)
  make-refused rel.Exists c = record { disk = whole; but = (c.refuses.layout whole.layout sound).exists refl }
  make-refused rel.Full c =
      let full = (c.refuses.layout whole.layout sound).full refl in
      record { disk = whole; but = (subst (λ (i : Image). HasNoRoom i whole.layout) is full.0, full.1) }
  make-refused rel.Device c = absurd (never-fails a b c.refuses.failures)
  make-refused rel.NotFound c = absurd (no-other rel.NotFound (λ e. cc) (λ e. cc) (λ e. cc) c.refuses.told)
  make-refused rel.NotPresent c = absurd (no-other rel.NotPresent (λ e. cc) (λ e. cc) (λ e. cc) c.refuses.told)
  make-refused rel.Overflow c = absurd (no-other rel.Overflow (λ e. cc) (λ e. cc) (λ e. cc) c.refuses.told)
  make-refused rel.TooLarge c = absurd (no-other rel.TooLarge (λ e. cc) (λ e. cc) (λ e. cc) c.refuses.told)
