-- The map, the fresh block, the side sectors.
use Rattle.std.proofs.Common.{arith, subst, ap, ◌≡◌, ◌∙◌, refl, inl, inr, length}
use Rattle.std.proofs.lemmas.Result.{on_ok_weaker}
use Rattle.d64_image.proofs.Moments.{at_end, changes_weaker, write_change}
use Rattle.d64_image.specs.Images.{Image, put}
use Rattle.d64_image.specs.declared.place.Place.{Place}
use Rattle.disk_layout.specs.Directory.{map_place}
use Rattle.rel_records.proofs.lemmas.steps.Sided.{before_sides, before_two}
use Rattle.rel_records.specs.growth.Steps.{IsSided}
use Rattle.rel_records.proofs.lemmas.Told.{tells-after, not-done, tells-failed}
use Rattle.rel_records.proofs.growth.steps.prepare.Goals as goal

pub returns-in_err-write-2 : goal.returns-in_err-write-2
returns-in_err-write-2 g c =
    let S = g.D.Sectors.history in
    record {
      ok = not-done c.from_residual-in_err-write-2.result _ c.from_residual-in_err-write-2.ensures.1 _;
      moments =
          changes_weaker S _ _ 2 _ _ _ (omega arith) (λ x h. h)
          (before_two S c.args.parts.now c.args.fresh c.args.block.now c.args.disk.now c.write.new.self
          c.write-2.new.self c.map_place.result c.map_place.ensures c.in_ok-write.ensures.ok
          c.in_ok-write.ensures.held c.in_ok-write.ensures.counted c.write-2.ensures.held
          (omega (arith, c.in_err-write-2.ensures.uncounted)));
      reads = omega (arith, c.in_err-write-2.ensures.reads, c.in_ok-write.ensures.reads);
      failures = tells-failed g.D.Sectors.history _ _ _ c.in_ok-write.ensures.failures
          c.from_residual-in_err-write-2.result _ c.from_residual-in_err-write-2.ensures.1
          c.in_err-write-2.ensures.failures;
    }

pub returns : goal.returns
returns g c =
    let S = g.D.Sectors.history in
    let done = rw (c.as_slice.ensures.value, c.as_slice-2.ensures.value) at c.write_sides.ensures.ok in
    let moments = rw (c.as_slice.ensures.value, c.as_slice-2.ensures.value) at c.write_sides.ensures.moments in
    let p = c.args.parts.now in
    let first : S.image c.write.new.self ≡ put (S.image c.args.disk.now) map_place
    p.map.bytes = c.in_ok-write.ensures.ok
    ∙ ap (λ (x : Place). put (S.image c.args.disk.now) x p.map.bytes) c.map_place.ensures in
    let P : Image → Type 0 = λ i. IsSided i p.blocks.items p.sides.items p.size (S.image c.write_sides.new.disk) in
    let sided = subst P (c.in_ok-write-2.ensures.ok ∙ ap (λ (i : Image). put i c.args.fresh c.args.block.now) first)
    (at_end S c.write-2.new.self c.write_sides.new.disk _ moments.held).each in
    record {
      ok = on_ok_weaker c.write_sides.result (λ h. (h, sided)) done;
      moments =
          before_sides S c.args.parts.now c.args.fresh c.args.block.now c.args.disk.now c.write.new.self
          c.write-2.new.self c.write_sides.new.disk c.map_place.result _ _ (omega arith) c.map_place.ensures
          c.in_ok-write.ensures.ok c.in_ok-write-2.ensures.ok
          (before_two S c.args.parts.now c.args.fresh c.args.block.now c.args.disk.now c.write.new.self
          c.write-2.new.self c.map_place.result c.map_place.ensures c.in_ok-write.ensures.ok
          c.in_ok-write.ensures.held c.in_ok-write.ensures.counted c.in_ok-write-2.ensures.held
          c.in_ok-write-2.ensures.counted)
          moments;
      reads = omega (arith, c.write_sides.ensures.reads, c.in_ok-write-2.ensures.reads, c.in_ok-write.ensures.reads);
      failures = tells-after g.D.Sectors.history _ _ _
          (c.in_ok-write-2.ensures.failures ∙ c.in_ok-write.ensures.failures) c.write_sides.result
          c.write_sides.ensures.failures;
    }

pub returns-in_err-write : goal.returns-in_err-write
returns-in_err-write g c =
    let S = g.D.Sectors.history in
    let p = c.args.parts.now in
    record {
      ok = not-done c.from_residual.result _ c.from_residual.ensures.1 _;
      moments =
          changes_weaker S _ _ 1 _ _ _ (omega arith) (λ x h. h)
          (write_change S c.args.disk.now c.write.new.self (S.image c.args.disk.now)
          (put (S.image c.args.disk.now) c.map_place.result p.map.bytes) _ c.write.ensures.held
          (omega (arith, c.in_err-write.ensures.uncounted))
          (inl refl) (inr (inl (ap (λ x. put (S.image c.args.disk.now) x p.map.bytes) c.map_place.ensures))));
      reads = omega (arith, c.in_err-write.ensures.reads);
      failures = tells-failed g.D.Sectors.history _ _ _ refl c.from_residual.result _ c.from_residual.ensures.1
          c.in_err-write.ensures.failures;
    }

pub write_sides-requires-clause-some : goal.write_sides-requires-clause-some
write_sides-requires-clause-some g c = omega (arith, c.requires.some, ap length c.as_slice-2.ensures.value)

pub write_sides-requires-clause-few : goal.write_sides-requires-clause-few
write_sides-requires-clause-few g c = omega (arith, c.requires.few, ap length c.as_slice-2.ensures.value)
