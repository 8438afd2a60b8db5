-- The map that was read, beside the owners.
use Rattle.std.proofs.Common.{ap, ◌∙◌}
use Rattle.std.proofs.lemmas.Result.{err_from_is_err_and, on_ok_weaker, IfErr-weaker}
use Rattle.d64_image.specs.Images.{sector}
use Rattle.d64_image.specs.declared.place.Place.{Place}
use Rattle.d64_image.proofs.Told.{at-ok}
use Rattle.layout_check.proofs.lemmas.judging.Calls.{passes_read, tells_read}
use Rattle.layout_check.proofs.lemmas.judging.Inexact.{clean_tells}
use Rattle.layout_check.proofs.lemmas.judging.Verdict.{map_tells, told-right}
use Rattle.layout_check.proofs.checking.check_map.Goals as goal

pub returns-in_err-read_sector : goal.returns-in_err-read_sector
returns-in_err-read_sector g c =
    let S = g.D.Sectors.history in
    let p = err_from_is_err_and c.from_residual.result c.from_residual.ensures.1 in
    record {
      map = rw p.1 tt;
      ok = rw p.1 tt;
      err = rw (p.1, p.2) (clean_tells S _ _ 1 _ (tells_read S c.args.disk.now c.read_sector.new.disk c.map_place.result
          _ c.in_err-read_sector.ensures.told c.in_err-read_sector.ensures.reads c.in_err-read_sector.ensures.failures
          c.in_err-read_sector.ensures.failed));
    }

pub returns : goal.returns
returns g c =
    let S = g.D.Sectors.history in
    record {
      map = let e = c.in_ok-read_sector.ensures.sector
          ∙ ap (λ (p : Place). sector (S.image c.args.disk.now) p) c.map_place.ensures in
          on_ok_weaker c.check_bits.result (λ h. told-right _ c.args.found.now c.read_sector.new.to c.requires e
          (rw (← c.owners.ensures) h)) c.check_bits.ensures.ok;
      ok = at-ok c.check_bits.result (passes_read S c.args.disk.now c.read_sector.new.disk
          c.in_ok-read_sector.ensures.reads c.in_ok-read_sector.ensures.failures);
      err = let e = c.in_ok-read_sector.ensures.sector
          ∙ ap (λ (p : Place). sector (S.image c.args.disk.now) p) c.map_place.ensures in
          IfErr-weaker c.check_bits.result _ _ (λ f h. map_tells S c.args.disk.now c.read_sector.new.disk
          c.args.found.now c.read_sector.new.to f c.requires (passes_read S c.args.disk.now c.read_sector.new.disk
          c.in_ok-read_sector.ensures.reads c.in_ok-read_sector.ensures.failures) e (rw (← c.owners.ensures) h))
          c.check_bits.ensures.err;
    }
