-- The entry is found, and its type written on the disk in memory.
use Rattle.std.proofs.Common.{◌≡◌, ⊎_elim, ◌<◌, ℕ, List, Ok, Err, ap, inr, refl, subst, sym, ◌∙◌}
use Rattle.std.proofs.lemmas.Bool.{false≢true}
use Rattle.std.proofs.lemmas.Result.{IfOk-weaker, err_from_is_err_and}
use Rattle.d64_image.specs.Images.{Image}
use Rattle.d64_image.specs.Memory.{disk_image, memory, sectors_in}
use Rattle.d64_image.specs.declared.mem_disk.MemDisk.{MemDisk}
use Rattle.disk_changes.proofs.Judged.{never-fails}
use Rattle.disk_changes.specs.Judged.{IsSoundDisk}
use Rattle.disk_changes.specs.Locks.{IsLockRefusal, IsLockSet, locked_text, with_lock}
use Rattle.disk_changes.specs.declared.changes.Changed.{Changed}
use Rattle.disk_changes.specs.declared.changes.Lock.{Lock}
use Rattle.command_faults.specs.declared.faults.CommandFault.TheVariants as faults
use Rattle.disk_layout.specs.Layout.{IsLayout}
use Rattle.disk_layout.specs.declared.slot.Slot.{Slot}
use Rattle.file_changes.proofs.Reslotted.{place}
use Rattle.file_changes.specs.Entries.{FindsEntry, entries_of}
use Rattle.command_faults.specs.declared.faults.CommandFault.{CommandFault}
use Rattle.disk_changes.specs.ShopFiles.{HasShopFile}
use Rattle.rel_records.proofs.lemmas.reading.Found.{slot-file}
use Rattle.disk_changes.proofs.locking.relocked.Goals as goal

module _ (image name : List ℕ) (a b : MemDisk) (whole : IsSoundDisk image) (is : disk_image a ≡ sectors_in image) where
  sound : IsLayout (disk_image a) whole.layout
  sound = subst (λ (i : Image). IsLayout i whole.layout) (sym is) whole.sound

  low : (s : Slot) → FindsEntry memory a b name (Ok s) → s.number < 8
  low s c =
      let (n, first) = c.ok whole.layout sound in
      let (f, at, same) = slot-file whole.layout (entries_of whole.layout) n s refl first.there in
      subst (λ (x : Slot). x.number < 8) same (place (disk_image a) whole.layout n f sound at).1

  done : (s : Slot) (lock : Lock) (d : MemDisk) (made : Changed) → FindsEntry memory a b name (Ok s)
      → disk_image d ≡ with_lock (disk_image b) s lock → ¬ (HasShopFile image name) → made.disk ≡ d
      → made.text.items ≡ locked_text lock → IsLockSet image name lock made
  done s lock d made c put other disk text =
      let (n, first) = c.ok whole.layout sound in
      record {
        before = whole;
        other = other;
        number = n;
        entry = s;
        first = first;
        after = ap (λ (m : MemDisk). disk_image m) disk ∙ put
            ∙ ap (λ (i : Image). with_lock i s lock) (c.reads.image ∙ is);
        text = text;
      }

  refused : (fault : CommandFault) → FindsEntry memory a b name (Err fault) → IsLockRefusal image name fault
  refused faults.NoFile c = record { disk = whole; but = inr (c.not_found whole.layout sound refl) }
  refused faults.Device c = absurd (never-fails a b c.failures)
  refused _ c = absurd (⊎_elim (λ e. cc) (λ e. cc) c.told)

pub put_lock-requires : goal.put_lock-requires
put_lock-requires c = low c.args.image.now c.args.name.now c.in_ok-disk.disk c.find_entry.new.disk
    c.in_ok-disk.ensures.ok.0 c.in_ok-disk.ensures.ok.1 c.in_ok-entry.entry c.in_ok-entry.ensures

pub returns-in_err-entry-clause-err : goal.returns-in_err-entry-clause-err
returns-in_err-entry-clause-err c =
    let p = err_from_is_err_and c.from_residual-in_err-entry.result c.from_residual-in_err-entry.ensures.1 in
    rw (p.1 ∙ ap Err p.2)
    (refused c.args.image.now c.args.name.now c.in_ok-disk.disk c.find_entry.new.disk
    c.in_ok-disk.ensures.ok.0 c.in_ok-disk.ensures.ok.1 c.in_err-entry.field-0.0 c.in_err-entry.ensures)

pub returns-clause-ok : goal.returns-clause-ok
returns-clause-ok c = IfOk-weaker c.changed.result _ _
    (λ made is. done c.args.image.now c.args.name.now c.in_ok-disk.disk c.find_entry.new.disk
    c.in_ok-disk.ensures.ok.0 c.in_ok-disk.ensures.ok.1 c.in_ok-entry.entry c.args.lock c.put_lock.new.disk made c.in_ok-entry.ensures
    c.put_lock.ensures
    (λ has. false≢true (sym c.if-branch.false ∙ c.in_ok-has_shop_file.ensures.ok.1 has)) is.0 (is.1 ∙ c.said.ensures))
    c.changed.ensures.ok
