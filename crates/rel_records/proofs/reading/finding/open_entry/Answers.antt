-- What is kept is of the slot's file: its chain was measured, and its first side sector lists them all.
use Rattle.std.proofs.Common.{List, ap, arith, length, slice_index, sym, ℕ, ◌∙◌, ◌≡◌, refl}
use Rattle.d64_image.proofs.Moments.{reads_then, reads_weaker}
use Rattle.d64_image.specs.declared.place.Place.{Place}
use Rattle.disk_layout.specs.Chain.{named_at}
use Rattle.disk_layout.specs.Layout.{sides_for}
use Rattle.disk_layout.specs.declared.slot.Slot.{Slot}
use Rattle.rel_records.proofs.lemmas.Told.{fault-is, none-done, passed-on}
use Rattle.rel_records.proofs.lemmas.reading.Found.{length-is, sides-named, some-blocks, some-side}
use Rattle.rel_records.proofs.reading.finding.open_entry.Goals as goal

pub unwrap-first-requires : goal.unwrap-first-requires
unwrap-first-requires g c =
    some-side (g.D.Sectors.history.image c.args.disk.now) c.args.slot.now c.first_side.result c.requires.of
    (c.first_side.ensures ∙ ap (λ (bytes : List ℕ). named_at bytes 21) c.new-view.ensures)

pub read_sides-requires : goal.read_sides-requires
read_sides-requires g c =
    let (f, of) = c.requires.of in
    let S = g.D.Sectors.history in
    let a = S.image c.args.disk.now in
    let s = c.args.slot.now in
    let named : c.first_side.result ≡ named_at s.bytes 21 = c.first_side.ensures
    ∙ ap (λ (bytes : List ℕ). named_at bytes 21) c.new-view.ensures in
    let names = sides-named a s f of (S.image c.measure.new.disk) c.first_side.result c.unwrap-first.result
    c.measure.ensures.reads.image named c.unwrap-first.ensures in
    let measured = c.in_ok-blocks.ensures.ok.0 f of in
    record {
      of = (f.sides, omega (arith, of.file.count, measured.0), omega (arith, c.in_ok-blocks.ensures.ok.1), names);
    }

pub invariant_of-result : goal.invariant_of-result
invariant_of-result g c =
    let (f, of) = c.requires.of in
    let S = g.D.Sectors.history in
    let a = S.image c.args.disk.now in
    let s = c.args.slot.now in
    let named : c.first_side.result ≡ named_at s.bytes 21 = c.first_side.ensures
    ∙ ap (λ (bytes : List ℕ). named_at bytes 21) c.new-view.ensures in
    let names = sides-named a s f of (S.image c.measure.new.disk) c.first_side.result c.unwrap-first.result
    c.measure.ensures.reads.image named c.unwrap-first.ensures in
    let measured = c.in_ok-blocks.ensures.ok.0 f of in
    let size = c.record_length.ensures ∙ ap (λ (bytes : List ℕ). slice_index bytes 23) c.new-view.ensures
    ∙ length-is a s f of in
    let sides = c.in_ok-read_sides.ensures.ok f.sides (omega (arith, of.file.count, measured.0)) names in
    record {
      size_low = omega (arith, size, of.file.length_low);
      size_high = omega (arith, size, of.file.length_high);
      some = omega (arith, measured.0, some-blocks a s f of);
      few = omega (arith, c.in_ok-blocks.ensures.ok.1);
      count = ap (λ (ps : List Place). length ps) sides ∙ of.file.count ∙ ap sides_for (sym measured.0);
    }

pub returns : goal.returns
returns g c =
    record {
      ok = (
        (λ f of.
            let S = g.D.Sectors.history in
            let a = S.image c.args.disk.now in
            let s = c.args.slot.now in
            let named : c.first_side.result ≡ named_at s.bytes 21 = c.first_side.ensures
            ∙ ap (λ (bytes : List ℕ). named_at bytes 21) c.new-view.ensures in
            let names = sides-named a s f of (S.image c.measure.new.disk) c.first_side.result c.unwrap-first.result
            c.measure.ensures.reads.image named c.unwrap-first.ensures in
            let measured = c.in_ok-blocks.ensures.ok.0 f of in
            let size = c.record_length.ensures ∙ ap (λ (bytes : List ℕ). slice_index bytes 23) c.new-view.ensures
            ∙ length-is a s f of in
            let sides = c.in_ok-read_sides.ensures.ok f.sides (omega (arith, of.file.count, measured.0)) names in
            record {
              sector = ap (λ (x : Slot). x.sector) (sym of.slot);
              number = ap (λ (x : Slot). x.number) (sym of.slot);
              size = size;
              sides = sides;
              blocks = measured.0;
              last = measured.1;
            }),
        refl,
      );
      err = tt;
      reads = reads_then g.D.Sectors.history _ _ _ 683 1 684 (omega arith) c.measure.ensures.reads
          c.read_sides.ensures.reads;
      failures = c.in_ok-read_sides.ensures.failures ∙ c.in_ok-blocks.ensures.failures;
    }

pub returns-in_err-read_sides : goal.returns-in_err-read_sides
returns-in_err-read_sides g c =
    record {
      ok = none-done c.from_residual-in_err-read_sides.result _ c.from_residual-in_err-read_sides.ensures.1 _;
      err = fault-is c.from_residual-in_err-read_sides.result _ c.from_residual-in_err-read_sides.ensures.1 _
          (λ e is. is ∙ c.in_err-read_sides.ensures.err);
      reads = reads_then g.D.Sectors.history c.args.disk.now c.measure.new.disk c.read_sides.new.disk 683 1 684
          (omega arith) c.measure.ensures.reads c.read_sides.ensures.reads;
      failures = passed-on g.D.Sectors.history _ _ _ c.in_ok-blocks.ensures.failures
          c.from_residual-in_err-read_sides.result _ c.from_residual-in_err-read_sides.ensures.1
          c.in_err-read_sides.ensures.failures;
    }

pub returns-in_err-blocks : goal.returns-in_err-blocks
returns-in_err-blocks g c =
    record {
      ok = none-done c.from_residual.result _ c.from_residual.ensures.1 _;
      err = fault-is c.from_residual.result _ c.from_residual.ensures.1 _ (λ e is. is ∙ c.in_err-blocks.ensures.err);
      reads = reads_weaker g.D.Sectors.history _ _ 683 684 (omega arith) c.measure.ensures.reads;
      failures = passed-on g.D.Sectors.history _ _ _ refl c.from_residual.result _ c.from_residual.ensures.1
          c.in_err-blocks.ensures.failures;
    }
