-- One write after another.
use Rattle.std.proofs.Common.{arith, refl, ◌∙◌, ap, ◌<◌, ◌%◌, List, length, ◌∷◌, ◌++◌, subst, sym}
use Rattle.std.specs.Prelude.{nat_eq}
use Rattle.rel_records.proofs.lemmas.steps.Added.{added, counting-moments, linking-moments, prepared-moments}
use Rattle.rel_records.proofs.lemmas.steps.LaidOut.{few-sides, sides-once, some-sides, step-of}
use Rattle.disk_layout.specs.Map.{IsMapOf}
use Rattle.disk_layout.specs.Directory.{map_place}
use Rattle.disk_layout.specs.Layout.{owners}
use Rattle.d64_image.specs.Images.{Sector}
use Rattle.d64_image.specs.declared.place.Place.{Place}
use Rattle.rel_records.proofs.growth.steps.add_block.Goals as goal
use Rattle.rel_records.proofs.lemmas.steps.Sided.{counted_once}
use Rattle.rel_records.proofs.lemmas.Told.{not-done}

-- The device fails.
pub returns-in_err-prepare-clause-file : goal.returns-in_err-prepare-clause-file
returns-in_err-prepare-clause-file g c l n f at up =
    let few : length f.blocks < 720 = omega (arith, c.requires.few, ap length at.blocks) in
    record {
      ok = not-done c.from_residual.result _ c.from_residual.ensures.1 _;
      moments = prepared-moments g.D.Sectors.history c.args.disk.now l n f c.args.parts.now c.lay_out-fresh.new.parts _
          _ _ at few c.lay_out-fresh.ensures.laid_out c.lay_out-fresh.ensures.sector up
          (ap (λ k. nat_eq (k % 120) 0) c.len-count.ensures.value) c.prepare.new.disk c.in_err-prepare.ensures.moments;
    }

pub returns-in_err-write-clause-file : goal.returns-in_err-write-clause-file
returns-in_err-write-clause-file g c l n f at up =
    let S = g.D.Sectors.history in
    let few : length f.blocks < 720 = omega (arith, c.requires.few, ap length at.blocks) in
    let last = c.last_place-old.ensures at.front at.last_place (at.blocks ∙ at.last_is) in
    record {
      ok = not-done c.from_residual-in_err-write.result _ c.from_residual-in_err-write.ensures.1 _;
      moments =
          linking-moments S c.args.disk.now l n f c.args.parts.now c.lay_out-fresh.new.parts _ _ _ at few
          c.lay_out-fresh.ensures.laid_out c.lay_out-fresh.ensures.sector up
          (ap (λ k. nat_eq (k % 120) 0) c.len-count.ensures.value)
          c.prepare.new.disk c.write.new.self c.last_place-old.result last c.in_ok-prepare.ensures.moments
          c.in_ok-prepare.ensures.ok c.write.ensures.held
          (counted_once S _ _ c.write.result c.write.ensures.counted c.write.ensures.uncounted);
    }

pub returns-in_err-write-2-clause-file : goal.returns-in_err-write-2-clause-file
returns-in_err-write-2-clause-file g c l n f at up =
    let S = g.D.Sectors.history in
    let few : length f.blocks < 720 = omega (arith, c.requires.few, ap length at.blocks) in
    let last = c.last_place-old.ensures at.front at.last_place (at.blocks ∙ at.last_is) in
    record {
      ok = not-done c.from_residual-in_err-write-2.result _ c.from_residual-in_err-write-2.ensures.1 _;
      moments =
          counting-moments S c.args.disk.now l n f c.args.parts.now c.lay_out-fresh.new.parts _ _ _ at few
          c.lay_out-fresh.ensures.laid_out c.lay_out-fresh.ensures.sector up
          (ap (λ k. nat_eq (k % 120) 0) c.len-count.ensures.value)
          c.prepare.new.disk c.write.new.self c.last_place-old.result last c.in_ok-prepare.ensures.moments
          c.in_ok-prepare.ensures.ok c.in_ok-write.ensures.held c.in_ok-write.ensures.counted
          c.write-2.new.self _ (c.lay_out-fresh.ensures.laid_out.places.sector ∙ at.place) c.in_ok-write.ensures.ok
          c.write-2.ensures.held
          (counted_once S _ _ c.write-2.result c.write-2.ensures.counted c.write-2.ensures.uncounted);
    }

pub prepare-requires-clause-some : goal.prepare-requires-clause-some
prepare-requires-clause-some g c =
    let S = g.D.Sectors.history in
    let (l, n, f, at) = c.requires.at in
    some-sides (step-of (S.whole c.args.disk.now) at c.requires.few c.lay_out-fresh.ensures.laid_out)

pub prepare-requires-clause-few : goal.prepare-requires-clause-few
prepare-requires-clause-few g c =
    let S = g.D.Sectors.history in
    let (l, n, f, at) = c.requires.at in
    few-sides (step-of (S.whole c.args.disk.now) at c.requires.few c.lay_out-fresh.ensures.laid_out)

pub prepare-requires-clause-once : goal.prepare-requires-clause-once
prepare-requires-clause-once g c =
    let S = g.D.Sectors.history in
    let (l, n, f, at) = c.requires.at in
    sides-once (step-of (S.whole c.args.disk.now) at c.requires.few c.lay_out-fresh.ensures.laid_out)

pub returns-clause-file : goal.returns-clause-file
returns-clause-file g c l n f at up =
    let S = g.D.Sectors.history in
    let few : length f.blocks < 720 = omega (arith, c.requires.few, ap length at.blocks) in
    let last = c.last_place-old.ensures at.front at.last_place (at.blocks ∙ at.last_is) in
    record {
      ok =
          added S c.args.disk.now l n f c.args.parts.now c.lay_out-fresh.new.parts _ _ _ at few
          c.lay_out-fresh.ensures.laid_out c.lay_out-fresh.ensures.sector up
          (ap (λ k. nat_eq (k % 120) 0) c.len-count.ensures.value)
          c.prepare.new.disk c.write.new.self c.last_place-old.result last c.in_ok-prepare.ensures.moments
          c.in_ok-prepare.ensures.ok c.in_ok-write.ensures.held c.in_ok-write.ensures.counted
          c.write-2.new.self _ (c.lay_out-fresh.ensures.laid_out.places.sector ∙ at.place) c.in_ok-write.ensures.ok _
          c.in_ok-write-2.ensures.ok refl refl refl refl refl refl refl refl;
      moments =
          counting-moments S c.args.disk.now l n f c.args.parts.now c.lay_out-fresh.new.parts _ _ _ at few
          c.lay_out-fresh.ensures.laid_out c.lay_out-fresh.ensures.sector up
          (ap (λ k. nat_eq (k % 120) 0) c.len-count.ensures.value)
          c.prepare.new.disk c.write.new.self c.last_place-old.result last c.in_ok-prepare.ensures.moments
          c.in_ok-prepare.ensures.ok c.in_ok-write.ensures.held c.in_ok-write.ensures.counted
          c.write-2.new.self _ (c.lay_out-fresh.ensures.laid_out.places.sector ∙ at.place) c.in_ok-write.ensures.ok
          c.in_ok-write-2.ensures.held c.in_ok-write-2.ensures.counted;
    }

pub lay_out-fresh-requires-clause-map : goal.lay_out-fresh-requires-clause-map
lay_out-fresh-requires-clause-map g c =
    let (l, n, f, at) = c.requires.at in
    let taken : List Place = at.strays ++ map_place ∷ owners l in
    let P : Sector → Type 0 = λ b. IsMapOf b taken in
    (taken, subst P (sym at.map) at.clean.map)

pub returns-clause-reads : goal.returns-clause-reads
returns-clause-reads g c = omega
    (arith, c.in_ok-write-2.ensures.reads, c.in_ok-write.ensures.reads, c.in_ok-prepare.ensures.reads)

pub returns-in_err-prepare-clause-reads : goal.returns-in_err-prepare-clause-reads
returns-in_err-prepare-clause-reads g c = omega (arith, c.in_err-prepare.ensures.reads)

pub returns-in_err-write-clause-reads : goal.returns-in_err-write-clause-reads
returns-in_err-write-clause-reads g c = omega
    (arith, c.in_err-write.ensures.reads, c.in_ok-prepare.ensures.reads)

pub returns-in_err-write-2-clause-reads : goal.returns-in_err-write-2-clause-reads
returns-in_err-write-2-clause-reads g c = omega
    (arith, c.in_err-write-2.ensures.reads, c.in_ok-write.ensures.reads, c.in_ok-prepare.ensures.reads)
