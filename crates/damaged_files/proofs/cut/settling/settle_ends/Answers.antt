-- Entry by entry.
use Rattle.std.proofs.Common.{◌∷◌, [], ap, length, refl, subst, sym, ◌∙◌, ◌≡◌}
use Rattle.std.proofs.lemmas.Option.{slice_get_read}
use Rattle.d64_image.specs.Images.{Image}
use Rattle.d64_image.specs.Memory.{disk_image}
use Rattle.disk_layout.proofs.lemmas.layouts.Layouts.{get-contains}
use Rattle.disk_layout.specs.Layout.{IsFile}
use Rattle.damaged_files.proofs.lemmas.cut.Entries.{file-at}
use Rattle.damaged_files.specs.cut.Settled.{IsLostEnd, with_end}
use Rattle.damaged_files.proofs.cut.settling.settle_ends.Goals as goal
use Rattle.damaged_files.proofs.cut.settling.settle_ends.Goals.{in-Some, in_default}

pub loop-slot-init : goal.loop-slot-init
loop-slot-init c = record { before = refl; ends = []; each = λ m is e. tt; after = c.requires.copy }

pub loop-slot-preserved : goal.loop-slot-preserved
loop-slot-preserved c =
    let img = disk_image c.args.before.now in
    let n = c.loop-slot.slot-index in
    let s = c.slot-item.result in
    let here = slice_get_read c.args.slots.now (length c.args.slots.now) n s refl c.loop-slot-test.true c.slot-item.is in
    let old = c.loop-slot.invariant in
    elim c.match-lost_end.branch [
      | in-Some w ↦
          let p = w.in-Some.place in
          record {
            before = c.lost_end.ensures.same ∙ old.before;
            ends = p ∷ old.ends;
            each = λ m is e.
                let (f, there, same, file) = file-at img m is c.args.slots.now e n s here in
                let P : Image → Type 0 = λ i. IsFile i f → IsLostEnd i f p in
                let lost = subst P old.before (λ is_file. c.lost_end.ensures.some f is_file same p w.in-Some.is) file in
                ((f, get-contains m.files n f there, lost), old.each m is e);
            after = ap (λ d. disk_image d) w.after-is ∙ w.put_end.ensures ∙ ap (λ (i : Image). with_end i p) old.after;
          }
      | in_default w ↦ record {
        before = c.lost_end.ensures.same ∙ old.before;
        ends = old.ends;
        each = old.each;
        after = ap (λ d. disk_image d) w.after-is ∙ old.after;
      }
    ]

pub returns-clause-settled : goal.returns-clause-settled
returns-clause-settled c = (c.loop-slot.invariant.ends, c.loop-slot.invariant.each, c.loop-slot.invariant.after)

pub returns-clause-same : goal.returns-clause-same
returns-clause-same c = c.loop-slot.invariant.before
