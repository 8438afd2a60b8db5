-- The file over whose records typed lines are read.
use Rattle.std.proofs.Common.{◌≡◌, ◌≢◌, ◌⊎◌, ⊎_elim, ◌∙◌, [], ℕ, List, Ok, Err, refl, subst, sym}
use Rattle.d64_image.specs.Images.{Image}
use Rattle.d64_image.specs.Memory.{disk_image, memory, sectors_in}
use Rattle.d64_image.specs.declared.mem_disk.MemDisk.{MemDisk}
use Rattle.damaged_files.specs.declared.sides.planning.Loss.{Loss}
use Rattle.command_faults.specs.Faults.{record_fault}
use Rattle.disk_changes.proofs.Judged.{never-fails}
use Rattle.disk_changes.specs.Judged.{IsUsableDisk}
use Rattle.disk_changes.specs.Stores.{IsStoreRefusal, IsTypedText}
use Rattle.disk_changes.specs.lines.TypedLines.{AreMadeOf}
use Rattle.disk_layout.specs.Layout.{File, IsLayout, IsSound}
use Rattle.disk_layout.specs.Records.{records}
use Rattle.line_text.specs.scripts.Lines.{lines}
use Rattle.line_text.specs.declared.petscii.characters.CharacterSet.{CharacterSet}
use Rattle.rel_records.specs.Calls.{FindsFile}
use Rattle.rel_records.specs.File.{IsFileOf, IsOf, OfItsFile, entry_of}
use Rattle.rel_records.specs.declared.faults.RelFault.{RelFault}
use Rattle.rel_records.specs.declared.faults.RelFault.TheVariants as rel
use Rattle.rel_records.specs.declared.rel_file.RelFile.{RelFile}

module _ (image name : List ℕ) (cut : Loss) (a b : MemDisk) (whole : IsUsableDisk image cut)
    (is : disk_image a ≡ sectors_in image) where
  sound : IsLayout (disk_image a) whole.layout
  sound = subst (λ (i : Image). IsLayout i whole.layout) (sym is) whole.usable.clean.layout

  pub sound-disk : IsSound (disk_image a)
  sound-disk = (whole.layout, sound)

  module _ (v : RelFile) (found : FindsFile memory a b name (Ok v)) where
    at : (f : File) → IsFileOf (disk_image a) whole.layout (entry_of v) f v
        → IsFileOf (disk_image b) whole.layout (entry_of v) f v
    at f of = subst (λ (i : Image). IsFileOf i whole.layout (entry_of v) f v) (sym found.reads.image) of

    pub of-file : IsOf (disk_image b) v
    of-file =
        let x = found.ok whole.layout sound in
        (whole.layout, entry_of v, x.0, at x.0 x.2)

    -- what is made of the lines over its records
    pub typed-text : (set : CharacterSet) (given plain : List ℕ)
        → OfItsFile (disk_image b) v (λ l n f. AreMadeOf set (records (disk_image b) f) (lines given) plain)
        → IsTypedText set image name given plain
    typed-text set given plain made =
        let x = found.ok whole.layout sound in (
          x.0,
          record {
            size = whole.taken.0;
            layout = whole.layout;
            is_layout = whole.usable.clean.layout;
            number = entry_of v;
            first = x.1;
          },
          subst (λ (i : Image). AreMadeOf set (records i x.0) (lines given) plain) (found.reads.image ∙ is)
              (made whole.layout (entry_of v) x.0 (at x.0 x.2)),
        )

  no-other : (e : RelFault) → e ≢ rel.NotFound → e ≢ rel.Device → (e ≡ rel.NotFound) ⊎ (e ≡ rel.Device) → ⊥
  no-other e x y told = ⊎_elim x y told

  -- there is no such file
  pub find-refused : (fault : RelFault) → FindsFile memory a b name (Err fault)
      → IsStoreRefusal image name [] cut (record_fault fault)
  find-refused rel.NotFound found = record { disk = whole; but = found.not_found whole.layout sound refl }
  find-refused rel.Device found = absurd (never-fails a b found.failures)
  find-refused rel.Exists found = absurd (no-other rel.Exists (λ e. cc) (λ e. cc) found.told)
  find-refused rel.Full found = absurd (no-other rel.Full (λ e. cc) (λ e. cc) found.told)
  find-refused rel.NotPresent found = absurd (no-other rel.NotPresent (λ e. cc) (λ e. cc) found.told)
  find-refused rel.Overflow found = absurd (no-other rel.Overflow (λ e. cc) (λ e. cc) found.told)
  find-refused rel.TooLarge found = absurd (no-other rel.TooLarge (λ e. cc) (λ e. cc) found.told)
