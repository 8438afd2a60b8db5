-- A repair keeps both files, and the drive is over the disk as it is.
use Rattle.std.proofs.Common.{ap, inl, refl, subst, sym, ◌∙◌, ◌≡◌}
use Rattle.std.proofs.lemmas.Option.{none-some}
use Rattle.host_session.proofs.lemmas.Held.{no_write_change}
use Rattle.host_session.specs.Held.{Changes}
use Rattle.disk_layout.specs.Clean.{IsClean}
use Rattle.host_session.specs.shop.Files.{HasFiles}
use Rattle.host_session.specs.session.Opening.{Untouched}
use Rattle.host_session.specs.shop.Shop.{IsShop}
use Rattle.host_session.proofs.lemmas.writing.Calls.{repair-moments}
use Rattle.host_session.proofs.lemmas.opening.Starts.{repair-failed, repaired-files}
use Rattle.host_session.proofs.session.starting.start.Goals as goal

pub returns-in-Ok : goal.returns-in-Ok
returns-in-Ok g c =
    let S = g.D.Sectors.history in
    let r = c.in-Ok.ensures.ok in
    -- the drive's disk is the one that was mended
    let same = sym c.power_on.ensures.disk in
    record {
      ready = record {
        alive = c.power_on.ensures.alive;
        clean = subst (λ d. IsClean (S.image d)) same (r.after, r.clean);
        free = λ x e. absurd (none-some x (sym c.power_on.ensures.channel ∙ e));
      };
      ok = λ f h.
          subst (λ d. HasFiles (S.image d) f) same
          (repaired-files (S.image c.args.disk) (S.image c.repair.new.disk) c.in-Ok.field-0 r f h);
      err = tt;
      moments = λ s h.
          subst (λ d. Changes S c.args.disk d 883 (λ i. IsShop i s)) same
          (repair-moments S c.args.disk c.repair.new.disk s h c.repair.ensures.moments c.repair.ensures.whole);
      quiet = λ clean.
          subst (λ d. Untouched S c.args.disk d) same
          (no_write_change S c.args.disk c.repair.new.disk (λ i. i ≡ S.image c.args.disk)
          (c.repair.ensures.quiet clean) refl);
      failures = ap S.failures c.power_on.ensures.disk ∙ c.in-Ok.ensures.failures;
    }

pub returns-in-Err : goal.returns-in-Err
returns-in-Err g c =
    let S = g.D.Sectors.history in
    record {
      ready = tt;
      ok = λ f h. tt;
      err = refl;
      moments = λ s h. repair-moments S c.args.disk c.repair.new.disk s h c.repair.ensures.moments c.repair.ensures.whole;
      quiet = λ clean.
          no_write_change S c.args.disk c.repair.new.disk (λ i. i ≡ S.image c.args.disk) (c.repair.ensures.quiet clean)
          refl;
      failures = inl (
        refl,
        repair-failed S c.args.disk c.repair.new.disk c.in-Err.field-0 c.requires.sound c.in-Err.ensures.err
            c.in-Err.ensures.failures,
      );
    }
