-- Entry by entry of the directory.
use Rattle.std.proofs.Common.{Err, List, Ok, ap, arith, false, refl, slice_index, subst, sym, ℕ, ◌∙◌, ◌+◌, ◌≡◌}
use Rattle.std.proofs.lemmas.Result.{err_from_is_err_and}
use Rattle.d64_image.specs.declared.place.Place.{Place}
use Rattle.disk_layout.proofs.lemmas.layouts.Layouts.{get-contains}
use Rattle.disk_layout.specs.Layout.{IsLayout, Layout, is_rel, is_rel_type}
use Rattle.layout_check.proofs.lemmas.finding.Progress.{listed-as}
use Rattle.layout_check.proofs.lemmas.finding.Roots.{directory-tells}
use Rattle.layout_check.proofs.lemmas.judging.Verdict.{filed-at}
use Rattle.layout_check.proofs.lemmas.mending.EntryMends.{filed-kept}
use Rattle.layout_check.proofs.lemmas.mending.MapMends.{device_later}
use Rattle.layout_check.proofs.lemmas.mending.SideMends.{sound-device}
use Rattle.layout_check.proofs.lemmas.repairing.MakesRights.{makes_file, makes_files, makes_layout, makes_none}
use Rattle.layout_check.proofs.lemmas.repairing.MakesRights.{makes_start}
use Rattle.layout_check.proofs.lemmas.repairing.OwnedSums.{owned-more}
use Rattle.layout_check.proofs.lemmas.repairing.RepairReads.{entries_reads, entry_reads, few_all}
use Rattle.layout_check.proofs.lemmas.repairing.RightSides.{file-at, plain-sides, sides-all, sides-past}
use Rattle.layout_check.specs.Mending.{MakesRight}
use Rattle.layout_check.specs.RepairOrder.{sides_of}
use Rattle.layout_check.proofs.mending.mend_entries.Goals as goal
use Rattle.layout_check.proofs.mending.mend_entries.Goals.{then-is_relative+in_ok-mend_relative, else-is_relative}

pub loop-slot-init : goal.loop-slot-init
loop-slot-init g c =
    let S = g.D.Sectors.history in
    let reads = c.in_ok-read_directory.ensures.reads in
    record {
      right = λ l h. makes_start S l c.args.disk.now c.read_directory.new.disk 18 reads;
      failures = c.in_ok-read_directory.ensures.failures;
      reads = λ l h. omega (arith, reads.reads);
    }

pub mend_relative-requires-clause-filed : goal.mend_relative-requires-clause-filed
mend_relative-requires-clause-filed g c =
    let S = g.D.Sectors.history in
    let d = c.in_ok-read_directory.ensures.ok in
    filed-kept _ _ c.slot-item.result
    (λ l h. makes_layout S c.args.disk.now l h c.loop-slot.slot-index c.loop-slot.disk
    (c.loop-slot.invariant.right l h)) (filed-at _ _ d.0 c.as_slice-slot-items.result.now
    c.loop-slot.slot-index c.slot-item.result refl c.requires (listed-as _ d.0 c.read_directory.new.slots.items
    c.as_slice-slot-items.result.now c.as_slice-slot-items.ensures.value d.1) c.loop-slot-test.true c.slot-item.is)

pub loop-slot-preserved : goal.loop-slot-preserved
loop-slot-preserved g c =
    let S = g.D.Sectors.history in
    let a = c.args.disk.now in
    let b = c.loop-slot.disk in
    let old = c.loop-slot.invariant in
    let n = c.loop-slot.slot-index in
    let d = c.in_ok-read_directory.ensures.ok in
    let items = c.as_slice-slot-items.result.now in
    let file = λ (l : Layout) (h : IsLayout (S.image a) l). file-at (S.image a) l d.0 items n c.slot-item.result h
    (listed-as _ d.0 c.read_directory.new.slots.items items c.as_slice-slot-items.ensures.value d.1)
    c.loop-slot-test.true c.slot-item.is in
    let plain = λ (l : Layout) (h : IsLayout (S.image a) l) (e : c.is_relative.result ≡ false).
    let (f, there, slot) = file l h in
    sides-past l.files n f there (plain-sides (S.image a) l f h (get-contains l.files n f there) (ap is_rel slot
    ∙ sym (c.is_relative.ensures ∙ ap (λ (bs : List ℕ). is_rel_type (slice_index bs 2)) c.new.ensures) ∙ e)) in
    elim c.if-is_relative.branch [
      | then-is_relative+in_ok-mend_relative w ↦
          let done = w.in_ok-mend_relative.ensures in
          let d = w.mend_relative.new.disk in
          let same = λ (l : Layout) (h : IsLayout (S.image a) l). makes_layout S a l h n b (old.right l h) in
          record {
            right = rw w.disk-is (λ l h. let (f, there, slot) = file l h in
                makes_file S a l h n f b d (Ok tt) there (old.right l h)
                (done.right l f (same l h) (get-contains l.files n f there) slot));
            failures = rw w.disk-is (done.failures ∙ old.failures);
            reads = rw w.disk-is (λ l h. let (f, there, slot) = file l h in
                (entry_reads S a b d l n f (Ok tt) there (old.reads l h)
                (done.reads l f (same l h) (get-contains l.files n f there) slot)).ok);
          }
      | else-is_relative w ↦ record {
        right = rw w.disk-is (λ l h. let P : List Place → Type 0 = λ xs. MakesRight {T = Unit {0}} S a b l xs (Ok tt) in
            subst P (plain l h w.if-is_relative.false) (old.right l h));
        failures = rw w.disk-is old.failures;
        reads = rw w.disk-is (λ l h. omega (arith, old.reads l h, owned-more l.files n));
      }
    ]

pub returns-in_err-read_directory : goal.returns-in_err-read_directory
returns-in_err-read_directory g c =
    let S = g.D.Sectors.history in
    let told = c.in_err-read_directory.ensures in
    let p = err_from_is_err_and c.from_residual.result c.from_residual.ensures.1 in
    record {
      right = λ l h. rw p.1 (makes_none S l (sides_of l.files) c.args.disk.now c.read_directory.new.disk 18 _
          told.reads);
      failures = rw (p.1, p.2) (sound-device S (Unit {0}) c.args.disk.now c.read_directory.new.disk 738 _ c.requires
          (directory-tells S (Unit {0}) c.args.disk.now c.read_directory.new.disk _ told.reads told.failures told.err));
      reads = λ l h. record { ok = rw p.1 tt; any = omega (arith, told.reads.reads) };
    }

pub returns-in_err-mend_relative : goal.returns-in_err-mend_relative
returns-in_err-mend_relative g c =
    let S = g.D.Sectors.history in
    let a = c.args.disk.now in
    let b = c.loop-slot.disk in
    let d = c.mend_relative.new.disk in
    let old = c.loop-slot.invariant in
    let now = c.in_err-mend_relative.ensures in
    let n = c.loop-slot.slot-index in
    let dir = c.in_ok-read_directory.ensures.ok in
    let items = c.as_slice-slot-items.result.now in
    let file = λ (l : Layout) (h : IsLayout (S.image a) l). file-at (S.image a) l dir.0 items n c.slot-item.result h
    (listed-as _ dir.0 c.read_directory.new.slots.items items c.as_slice-slot-items.ensures.value dir.1)
    c.loop-slot-test.true c.slot-item.is in
    let same = λ (l : Layout) (h : IsLayout (S.image a) l). makes_layout S a l h n b (old.right l h) in
    let p = err_from_is_err_and c.from_residual-in_err-mend_relative.result
    c.from_residual-in_err-mend_relative.ensures.1 in
    record {
      right = λ l h. let (f, there, slot) = file l h in
          rw (p.1, p.2) (makes_files S a l h (n + 1) d _ (makes_file S a l h n f b d (Err _) there (old.right l h)
          (now.right l f (same l h) (get-contains l.files n f there) slot)));
      failures = rw (p.1, p.2) (device_later S (Unit {0}) a b d (Err _) old.failures now.failures);
      reads = λ l h. let (f, there, slot) = file l h in
          rw (p.1, p.2) (entries_reads S a d l (n + 1) (Err _) (entry_reads S a b d l n f (Err _) there (old.reads l h)
          (now.reads l f (same l h) (get-contains l.files n f there) slot)));
    }

pub returns : goal.returns
returns g c =
    let S = g.D.Sectors.history in
    let a = c.args.disk.now in
    let b = c.loop-slot.disk in
    let d = c.in_ok-read_directory.ensures.ok in
    let items = c.as_slice-slot-items.result.now in
    let old = c.loop-slot.invariant in
    record {
      right = λ l h. let P : List Place → Type 0 = λ xs. MakesRight {T = Unit {0}} S a b l xs (Ok tt) in
          subst P (sides-all (S.image a) l d.0 items c.loop-slot.slot-index h
          (listed-as _ d.0 c.read_directory.new.slots.items items c.as_slice-slot-items.ensures.value d.1)
          c.loop-slot-test.false) (old.right l h);
      failures = old.failures;
      reads = λ l h. entries_reads S a b l c.loop-slot.slot-index (Ok tt)
          (few_all S a b _ (Ok tt) (old.reads l h));
    }

pub bounds-slot-items-slot-index : goal.bounds-slot-items-slot-index
bounds-slot-items-slot-index g c = c.loop-slot-test.true

pub offset_bounds-slot-items-slot-index : goal.offset_bounds-slot-items-slot-index
offset_bounds-slot-items-slot-index g c = omega (
  arith,
  c.loop-slot-test.true,
  c.as_slice-slot-items.ensures.fits,
)

pub mend_relative-requires-clause-rel : goal.mend_relative-requires-clause-rel
mend_relative-requires-clause-rel g c = sym (c.is_relative.ensures
    ∙ ap (λ (bs : List ℕ). is_rel_type (slice_index bs 2)) c.new.ensures) ∙ c.if-is_relative.true
