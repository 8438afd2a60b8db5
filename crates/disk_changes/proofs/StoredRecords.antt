-- What comes of storing records on the disk in memory.
use Rattle.std.proofs.Common.{◌≡◌, ◌∙◌, ◌++◌, [], ℕ, List, ap, subst, sym}
use Rattle.std.specs.Prelude.{slice_get, Some}
use Rattle.command_faults.specs.declared.faults.CommandFault.{CommandFault}
use Rattle.command_faults.specs.declared.faults.CommandFault.TheVariants as faults
use Rattle.d64_image.specs.Images.{Image}
use Rattle.d64_image.specs.Memory.{disk_image, memory, sectors_in}
use Rattle.d64_image.specs.declared.mem_disk.MemDisk.{MemDisk}
use Rattle.damaged_files.specs.declared.sides.planning.Loss.{Loss}
use Rattle.disk_changes.proofs.Judged.{never-fails}
use Rattle.disk_changes.proofs.Usable.{is-usable-disk}
use Rattle.disk_changes.specs.Judged.{IsTaken, IsUsableBut, in_memory}
use Rattle.disk_changes.specs.Stores.{IsStoreRefusal, IsStored}
use Rattle.disk_changes.specs.declared.changes.Changed.{Changed}
use Rattle.disk_layout.specs.Layout.{File, Layout, record_length}
use Rattle.disk_layout.specs.Records.{records}
use Rattle.disk_layout.specs.Rest.{IsNamed}
use Rattle.disk_changes.specs.lines.Refusals.{IsLeft}
use Rattle.disk_changes.specs.lines.Stores.{AreSo, changed_text, greatest, last_ones, stored}
use Rattle.disk_changes.specs.lines.Storing.{HasBadLine, HasNoStoreRoom, IsStoreFault, IsStoredDisk}
use Rattle.rel_records.specs.Others.{HasRecords}
use Rattle.rel_records.specs.Usable.{IsAsClean}
use Rattle.rel_records.specs.Written.{grown_to}
use Rattle.rel_records.specs.growth.Growth.{IsFull}

module _ (image name text : List ℕ) (cut : Loss) (a b : MemDisk) (taken : IsTaken image cut)
    (is : disk_image a ≡ sectors_in image) where
  pub store-done : (x : IsStoredDisk memory image name text a b) → (made : Changed) → made.disk ≡ b → (before : List ℕ)
      → before ≡ [] → made.text.items ≡ before ++ changed_text (record_length x.run.file.slot) (last_ones x.run.all)
      (grown_to (disk_image a) x.run.file (greatest x.run.all))
      → IsStored image name text cut made
  store-done x made disk before none printed =
      let L = record_length x.run.file.slot in
      let all = x.run.all in
      let file = x.run.file in
      record {
        before = is-usable-disk image cut (disk_image a) is taken x.run.layout x.run.strays x.run.usable;
        number = x.run.number;
        file = file;
        first = x.run.first;
        all = all;
        are_lines = x.run.are_lines;
        fits = subst (λ (i : Image). ¬ (IsFull i file (greatest all))) is x.fits;
        clean = subst (λ (d : MemDisk). IsAsClean (sectors_in image) x.run.layout (disk_image d)) (sym disk)
            (subst (λ (i : Image). IsAsClean i x.run.layout (disk_image b)) is x.clean);
        has = subst (λ (d : MemDisk). HasRecords (sectors_in image) (disk_image d) x.run.layout x.run.number
            (stored L all (grown_to (sectors_in image) file (greatest all)))) (sym disk)
            (subst (λ (i : Image). HasRecords i (disk_image b) x.run.layout x.run.number
            (stored L all (grown_to i file (greatest all)))) is x.has);
        quiet = λ so. ap disk_image disk
            ∙ (x.quiet (subst (λ (i : Image). AreSo L (records i file) (last_ones all)) (sym is) so)).image ∙ is;
        text = printed ∙ ap (λ (t : List ℕ). t ++ changed_text L (last_ones all) (grown_to (disk_image a) file (greatest all))) none
            ∙ ap (λ (i : Image). changed_text L (last_ones all) (grown_to i file (greatest all))) is;
      }

  module _ {W : Type 0} (w v : W) where
    left : (Q : Layout → Type 0) → IsLeft memory image a b w v Q → IsUsableBut image cut Q
    left Q x = record {
      disk = is-usable-disk image cut (disk_image a) is taken x.layout x.strays x.usable;
      but = x.why;
    }

    pub store-refused : (fault : CommandFault) → IsStoreFault memory image name text a b w v fault
        → IsStoreRefusal image name text cut (in_memory fault)
    store-refused faults.ImageSize c = c.0
    store-refused faults.NoMemory c = c.0
    store-refused (faults.Layout fault) c = ((c.0, c.1), c.2)
    store-refused faults.NoFile c = left (λ l. (k : ℕ) (f : File) → slice_get l.files k ≡ Some f → ¬ (IsNamed name f)) c
    store-refused (faults.RecordsLine k) c = left (HasBadLine name text k) c
    store-refused faults.DiskFull c = left (HasNoStoreRoom (sectors_in image) name text)
        (subst (λ (i : Image). IsLeft memory image a b w v (HasNoStoreRoom i name text)) is c)
    store-refused faults.File c = taken.0
    store-refused faults.Device c = absurd (never-fails a b c.0)
    store-refused _ c = absurd c
