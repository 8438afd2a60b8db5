-- Entry by entry: none counts more blocks yet, or this one is the first.
use Rattle.std.proofs.Common.{arith, inl, inr, length, refl, subst, ◌∙◌, ◌≡◌}
use Rattle.std.proofs.lemmas.Option.{slice_get_read, slice_get_within}
use Rattle.d64_image.specs.Images.{Image}
use Rattle.d64_image.specs.Memory.{disk_image}
use Rattle.d64_image.specs.declared.place.Place.{Place}
use Rattle.disk_layout.specs.Layout.{IsFile}
use Rattle.damaged_files.proofs.lemmas.cut.Entries.{entry-at, file-at, one-entry}
use Rattle.damaged_files.proofs.lemmas.Below.{below-or-here}
use Rattle.damaged_files.specs.cut.Cut.{HasFewer}
use Rattle.damaged_files.proofs.cut.cuts.first_fewer.Goals as goal

pub returns-in-Some-clause-told : goal.returns-in-Some-clause-told
returns-in-Some-clause-told c l is e =
    let n = c.loop-slot.slot-index in
    let s = c.slot-item.result in
    let here = slice_get_read c.args.slots.now (length c.args.slots.now) n s refl c.loop-slot-test.true c.slot-item.is in
    let (f, there, same, file) = file-at (disk_image c.args.disk.now) l is c.args.slots.now e n s here in
    let P : Image → Type 0 = λ i. IsFile i f → f.slot ≡ s → HasFewer f c.in-Some.place in
    record {
      number = n;
      file = f;
      there = there;
      fewer = subst P c.loop-slot.invariant.same (c.in-Some.ensures.told f) file same;
      first = λ k g q lt at fewer. c.loop-slot.invariant.none l is e k g q lt at fewer;
    }

pub loop-slot-preserved : goal.loop-slot-preserved
loop-slot-preserved c =
    let img = disk_image c.args.disk.now in
    let n = c.loop-slot.slot-index in
    let s = c.slot-item.result in
    let here = slice_get_read c.args.slots.now (length c.args.slots.now) n s refl c.loop-slot-test.true c.slot-item.is in
    record {
      same = c.fewer_of.ensures.same ∙ c.loop-slot.invariant.same;
      none = λ m is e k g q lt at fewer. elim (below-or-here k n lt) [
        | inl lower ↦ c.loop-slot.invariant.none m is e k g q lower at fewer
        | inr equal ↦
            let (there, file) = entry-at img m is c.args.slots.now e k g at in
            let same = one-entry c.args.slots.now k n g.slot s equal there here in
            let P : Image → Type 0 = λ i. IsFile i g → g.slot ≡ s → (p : Place) → ¬ (HasFewer g p) in
            subst P c.loop-slot.invariant.same (c.in_default.ensures.told g) file same q fewer
      ];
    }

pub returns-clause-told : goal.returns-clause-told
returns-clause-told c l is e k g q at fewer =
    let (there, file) = entry-at (disk_image c.args.disk.now) l is c.args.slots.now e k g at in
    c.loop-slot.invariant.none l is e k g q (omega (
      arith,
      c.loop-slot-test.false,
      slice_get_within c.args.slots.now k g.slot there,
    )) at fewer
