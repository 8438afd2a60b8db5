-- A new log stands in the place of the old one.
use Rattle.std.proofs.Common.{◌∙◌, Some, arith, false, subst, sym}
use Rattle.std.proofs.lemmas.List.{with_items_is}
use Rattle.image_log.specs.life.LiveLogs.{IsRenewing, Stands}
use Rattle.image_log.proofs.lemmas.life.Moves.{renewed, serves_stands, under_name}
use Rattle.image_log.proofs.life.live_log.LiveLog.renew.Goals as goal

pub returns-clause-ok : goal.returns-clause-ok
returns-clause-ok g c stands =
    let old = c.args.self.now in
    let here = under_name g.D.LogFolder.history old.folder old.log c.in-Some.log old.used old.base.items c.as_slice-base.result.now
    c.args.now.now (sym c.take.ensures.value ∙ c.in-Some.is) (sym c.as_slice-base.ensures.value) stands.0 in (
      subst (λ b. Stands g.D.LogFolder.history c.renew.new.folder (Some c.in_ok-new.new) false b c.args.now.now)
          (sym (with_items_is old.base c.copy_from_slice.new.self (c.copy_from_slice.ensures.len ∙ c.as_mut_slice.ensures.len)
          ∙ c.copy_from_slice.ensures.after))
          (serves_stands g.D.LogFolder.history c.renew.new.folder c.in_ok-new.new c.args.now.now (c.in_ok-new.ensures.ok old.used here)),
      stands.1,
    )

pub returns-clause-any_moment : goal.returns-clause-any_moment
returns-clause-any_moment g c stands =
    let old = c.args.self.now in
    let is = sym c.take.ensures.value ∙ c.in-Some.is in
    let here = under_name g.D.LogFolder.history old.folder old.log c.in-Some.log old.used old.base.items c.as_slice-base.result.now
    c.args.now.now is (sym c.as_slice-base.ensures.value) stands.0 in
    renewed g.D.LogFolder.history old _ c.args.now.now
    (subst (λ o. IsRenewing g.D.LogFolder.history old.folder o old.used c.renew.new.folder c.args.now.now) (sym is)
    (c.renew.ensures.any_moment old.used here)) (λ t s left. left) (omega arith)
