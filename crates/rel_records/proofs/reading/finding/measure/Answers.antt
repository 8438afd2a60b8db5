-- The chain that is walked is the file's, and a walk of it fails by the device alone.
use Rattle.std.proofs.Common.{List, ap, arith, refl, length, ℕ, ◌∙◌, ◌≡◌}
use Rattle.d64_image.proofs.Moments.{reads_weaker}
use Rattle.d64_image.specs.declared.place.Place.{Place}
use Rattle.disk_layout.specs.Chain.{named_at}
use Rattle.rel_records.proofs.lemmas.reading.Found.{measured, some-first, walk-failed}
use Rattle.rel_records.proofs.reading.finding.measure.Goals as goal

pub unwrap-first-requires : goal.unwrap-first-requires
unwrap-first-requires g c =
    some-first (g.D.Sectors.history.image c.args.disk.now) c.args.slot.now c.first_block.result c.requires.of
    (c.first_block.ensures ∙ ap (λ (bytes : List ℕ). named_at bytes 3) c.new.ensures)

pub returns-in-Ok : goal.returns-in-Ok
returns-in-Ok g c =
    record {
      ok = (
        (λ f of.
            let S = g.D.Sectors.history in
            let named : c.first_block.result ≡ named_at c.args.slot.now.bytes 3 = c.first_block.ensures
            ∙ ap (λ (bytes : List ℕ). named_at bytes 3) c.new.ensures in
            let same = measured (S.image c.args.disk.now) c.args.slot.now f of c.first_block.result
            c.unwrap-first.result c.walk_chain.new.places.items c.in-Ok.last named c.unwrap-first.ensures
            c.in-Ok.ensures.chain in
            (c.len.ensures.value ∙ ap (λ (ps : List Place). length ps) same.0, same.1)),
        omega (arith, c.len.ensures.value, c.walk_chain.ensures.few),
      );
      err = tt;
      reads = reads_weaker g.D.Sectors.history c.args.disk.now c.walk_chain.new.disk _ 683 c.walk_chain.ensures.few
          c.walk_chain.ensures.reads;
      failures = c.in-Ok.ensures.failures;
    }

pub returns-in-Err : goal.returns-in-Err
returns-in-Err g c =
    let S = g.D.Sectors.history in
    let named : c.first_block.result ≡ named_at c.args.slot.now.bytes 3 = c.first_block.ensures
    ∙ ap (λ (bytes : List ℕ). named_at bytes 3) c.new.ensures in
    record {
      ok = tt;
      err = refl;
      reads = reads_weaker g.D.Sectors.history c.args.disk.now c.walk_chain.new.disk _ 683 c.walk_chain.ensures.few
          c.walk_chain.ensures.reads;
      failures = walk-failed ℕ S c.args.disk.now c.walk_chain.new.disk _ (S.image c.args.disk.now) c.args.slot.now
          c.first_block.result c.unwrap-first.result c.in-Err.field-0 c.requires.of named c.unwrap-first.ensures
          c.in-Err.ensures.fault c.in-Err.ensures.failures;
    }
