-- Entry by entry: none that is asked for is cut short yet, or this one is the first.
use Rattle.std.proofs.Common.{arith, inl, inr, length, refl, subst, sym, ◌∙◌, ◌≡◌, IsTrue, ℕ}
use Rattle.std.proofs.lemmas.Bool.{false≢true}
use Rattle.std.proofs.lemmas.Option.{slice_get_read, slice_get_within}
use Rattle.d64_image.specs.Images.{Image}
use Rattle.d64_image.specs.Memory.{disk_image}
use Rattle.d64_image.specs.declared.place.Place.{Place}
use Rattle.disk_layout.specs.Layout.{IsFile}
use Rattle.damaged_files.proofs.lemmas.cut.Entries.{entry-at, file-at, one-entry}
use Rattle.damaged_files.proofs.lemmas.Below.{below-or-here}
use Rattle.damaged_files.proofs.lemmas.cut.Shorts.{cut-as}
use Rattle.damaged_files.specs.cut.Cut.{HasStray, IsCutIn}
use Rattle.disk_layout.specs.Listed.{HasStock}
use Rattle.damaged_files.specs.cut.Told.{IsAsked}
use Rattle.damaged_files.proofs.cut.cuts.first_cut.Goals as goal
use Rattle.damaged_files.proofs.cut.cuts.first_cut.Goals.{then-is_asked+in_default, else-is_asked}

pub returns-in-Some-clause-told : goal.returns-in-Some-clause-told
returns-in-Some-clause-told c l is e strays shop =
    let img = disk_image c.args.disk.now in
    let n = c.loop-number.number in
    let s = c.index-slots-number.result in
    let here = slice_get_read c.args.slots.now (length c.args.slots.now) n s refl c.loop-number-test.true c.index-slots-number.is in
    let (f, there, same, file) = file-at img l is c.args.slots.now e n s here in
    let P : Image → Type 0 = λ i. IsFile i f → f.slot ≡ s
    → IsCutIn i (IsTrue c.args.facts.strays) (IsTrue c.args.facts.shop) f c.in-Some.place in
    let cut = subst P c.loop-number.invariant.same (c.in-Some.ensures.told f) file same in
    record {
      number = n;
      file = f;
      there = there;
      asked = c.is_asked.ensures.0 c.if-is_asked.true;
      cut = cut-as img (IsTrue c.args.facts.strays) (HasStray img l) (IsTrue c.args.facts.shop) (HasStock l) f
          c.in-Some.place strays.0 shop.0 cut;
      first = λ k g q lt at asked short. c.loop-number.invariant.none l is e k g q lt at asked
          (cut-as img (HasStray img l) (IsTrue c.args.facts.strays) (HasStock l) (IsTrue c.args.facts.shop) g q strays.1
          shop.1 short);
    }

pub loop-number-preserved : goal.loop-number-preserved
loop-number-preserved c =
    let img = disk_image c.args.disk.now in
    let n = c.loop-number.number in
    let s = c.index-slots-number.result in
    let here = slice_get_read c.args.slots.now (length c.args.slots.now) n s refl c.loop-number-test.true c.index-slots-number.is in
    let A : ℕ → Type 0 = IsAsked c.args.entry in
    elim c.if-is_asked.branch [
      | then-is_asked+in_default w ↦ record {
        same = rw w.disk-is (w.cut_of.ensures.same ∙ c.loop-number.invariant.same);
        none = λ m is e k g q lt at asked cut. elim (below-or-here k n lt) [
          | inl lower ↦ c.loop-number.invariant.none m is e k g q lower at asked cut
          | inr equal ↦
              let (there, file) = entry-at img m is c.args.slots.now e k g at in
              let same = one-entry c.args.slots.now k n g.slot s equal there here in
              let P : Image → Type 0 = λ i. IsFile i g → g.slot ≡ s → (p : Place)
              → ¬ (IsCutIn i (IsTrue c.args.facts.strays) (IsTrue c.args.facts.shop) g p) in
              subst P c.loop-number.invariant.same (w.in_default.ensures.told g) file same q cut
        ];
      }
      | else-is_asked w ↦ record {
        same = rw w.disk-is c.loop-number.invariant.same;
        none = λ m is e k g q lt at asked cut. elim (below-or-here k n lt) [
          | inl lower ↦ c.loop-number.invariant.none m is e k g q lower at asked cut
          | inr equal ↦ false≢true (sym w.if-is_asked.false ∙ c.is_asked.ensures.1 (subst A equal asked))
        ];
      }
    ]

pub returns-clause-told : goal.returns-clause-told
returns-clause-told c l is e strays shop k g q at asked cut =
    let img = disk_image c.args.disk.now in
    let (there, file) = entry-at img l is c.args.slots.now e k g at in
    c.loop-number.invariant.none l is e k g q (omega (
      arith,
      c.loop-number-test.false,
      slice_get_within c.args.slots.now k g.slot there,
    )) at asked (cut-as img (HasStray img l) (IsTrue c.args.facts.strays) (HasStock l) (IsTrue c.args.facts.shop) g q
    strays.1 shop.1 cut)
