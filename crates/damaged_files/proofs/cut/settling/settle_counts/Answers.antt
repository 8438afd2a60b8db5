-- Entry by entry.
use Rattle.std.proofs.Common.{◌∷◌, [], ap, length, refl, subst, sym, ◌+◌, ◌∙◌, ◌≡◌}
use Rattle.std.proofs.lemmas.Option.{slice_get_read}
use Rattle.d64_image.specs.Images.{Image}
use Rattle.d64_image.specs.Memory.{disk_image}
use Rattle.disk_layout.proofs.lemmas.layouts.Layouts.{get-contains}
use Rattle.disk_layout.specs.Layout.{IsFile}
use Rattle.damaged_files.proofs.lemmas.cut.Entries.{file-at}
use Rattle.damaged_files.specs.cut.Cut.{CountsMore, info_blocks}
use Rattle.damaged_files.specs.cut.Settled.{with_count}
use Rattle.disk_layout.specs.Chain.{named_at}
use Rattle.disk_layout.specs.declared.slot.Slot.{Slot}
use Rattle.damaged_files.proofs.cut.settling.settle_counts.Goals as goal
use Rattle.damaged_files.proofs.cut.settling.settle_counts.Goals.{in-Some, in_default}

pub loop-slot-init : goal.loop-slot-init
loop-slot-init c = record { before = refl; counts = []; each = λ m is e. tt; after = refl }

pub loop-slot-preserved : goal.loop-slot-preserved
loop-slot-preserved c =
    let img = disk_image c.args.before.now in
    let n = c.loop-slot.slot-index in
    let s = c.slot-item.result in
    let here = slice_get_read c.args.slots.now (length c.args.slots.now) n s refl c.loop-slot-test.true c.slot-item.is in
    let old = c.loop-slot.invariant in
    elim c.match-count_to_set.branch [
      | in-Some w ↦
          let k = w.in-Some.count in
          record {
            before = c.count_to_set.ensures.same ∙ old.before;
            counts = (s, k) ∷ old.counts;
            each = λ m is e.
                let (f, there, same, file) = file-at img m is c.args.slots.now e n s here in
                let P : Image → Type 0 = λ i. IsFile i f in
                let (more, is_count) = c.count_to_set.ensures.some f (subst P (sym old.before) file) same k w.in-Some.is in
                let C : Slot → Type 0 = λ t. CountsMore t (length f.blocks)
                × (k ≡ length f.blocks + info_blocks (named_at t.bytes 21)) in
                let counted = subst C same (more, is_count) in
                ((f, get-contains m.files n f there, same, counted.0, counted.1), old.each m is e);
            after = ap (λ d. disk_image d) w.after-is ∙ w.put_count.ensures ∙ ap (λ (i : Image). with_count i s k) old.after;
          }
      | in_default w ↦ record {
        before = c.count_to_set.ensures.same ∙ old.before;
        counts = old.counts;
        each = old.each;
        after = ap (λ d. disk_image d) w.after-is ∙ old.after;
      }
    ]

pub returns-clause-settled : goal.returns-clause-settled
returns-clause-settled c = (c.loop-slot.invariant.counts, c.loop-slot.invariant.each, c.loop-slot.invariant.after)

pub returns-clause-same : goal.returns-clause-same
returns-clause-same c = c.loop-slot.invariant.before

-- one of the entries
pub put_count-requires : goal.put_count-requires
put_count-requires c =
    let s = c.slot-item.result in
    let here = slice_get_read c.args.slots.now (length c.args.slots.now) c.loop-slot.slot-index s refl c.loop-slot-test.true
    c.slot-item.is in
    c.requires.low s (get-contains c.args.slots.now c.loop-slot.slot-index s here)
