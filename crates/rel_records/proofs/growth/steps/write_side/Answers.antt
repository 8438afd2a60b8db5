-- One side sector is written.
use Rattle.std.proofs.Common.{arith, sym, ◌≡◌, ◌∙◌, ap, inl, inr, refl, Some}
use Rattle.std.proofs.lemmas.Result.{on_ok_weaker}
use Rattle.d64_image.proofs.Moments.{write_change}
use Rattle.d64_image.specs.Images.{Sector, put}
use Rattle.rel_records.proofs.lemmas.steps.Sided.{counted_once}
use Rattle.disk_layout.specs.Side.{side_sector}
use Rattle.disk_layout.proofs.lemmas.lists.Lists.{read-there}
use Rattle.d64_image.specs.declared.place.Place.{Place}
use Rattle.rel_records.proofs.growth.steps.write_side.Goals as goal

same-place : (p q : Place) → Some p ≡ Some q → p ≡ q
same-place p q e = cc

pub returns : goal.returns
returns g c =
    let S = g.D.Sectors.history in
    let a = S.image c.args.disk.now in
    let p = c.index-sides-number.result in
    let at = read-there c.args.sides.now c.args.number p c.requires c.index-sides-number.is in
    record {
      ok =
          on_ok_weaker c.write.result
          (λ e q there. e ∙ ap (λ (s : Sector). put a p s) c.side_bytes-bytes.ensures
          ∙ ap (λ x. put a x (side_sector c.args.number c.args.blocks.now c.args.sides.now c.args.size))
          (same-place p q (sym at ∙ there))) c.write.ensures.ok;
      moments =
          write_change S c.args.disk.now c.write.new.self a (put a p c.side_bytes-bytes.result) _ c.write.ensures.held
          (counted_once S _ _ c.write.result c.write.ensures.counted c.write.ensures.uncounted)
          (inl refl)
          (inr (λ q there. ap (λ (s : Sector). put a p s) c.side_bytes-bytes.ensures
          ∙ ap (λ x. put a x (side_sector c.args.number c.args.blocks.now c.args.sides.now c.args.size))
          (same-place p q (sym at ∙ there))));
      reads = omega (arith, c.write.ensures.reads);
      failures = c.write.ensures.failures;
    }
