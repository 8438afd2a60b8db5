-- The log is closed, marked and landed, and a new one gets its name.
use Rattle.std.proofs.Common.{◌≡◌, ℕ, Bool, List, Some, refl, subst, sym}
use Rattle.std.proofs.lemmas.Bool.{false≢true}
use Rattle.image_log.specs.life.Folders.{Folder, IsReturned, with_log}
use Rattle.image_log.specs.life.LiveLogs.{Stands}
use Rattle.image_log.specs.life.Serving.{IsServing}
use Rattle.image_log.proofs.lemmas.life.Alone.{alone_under}
use Rattle.image_log.proofs.lemmas.life.Renewed.{bring_renewing, closed_left, if_made, mark_renewing, new_renewing, new_serves, renewing}
use Rattle.image_log.proofs.lemmas.life.Steps.{started}
use Rattle.image_log.proofs.life.renewing.renew.Goals as goal

pub returns-in_err-close_log-clause-any_moment : goal.returns-in_err-close_log-clause-any_moment
returns-in_err-close_log-clause-any_moment g c used stands =
    let back = subst (λ f. IsReturned g.D.LogFolder.history g.F.LogFile.history c.args.folder.now c.close_log.new.self f c.close_log.result)
    c.into_parts-file.ensures c.close_log.ensures.returned in
    renewing g.D.LogFolder.history c.args.folder.now c.close_log.new.self c.args.log used c.args.base.now c.args.now.now stands
    c.close_log.result back c.close_log.new.self
    (started g.D.LogFolder.history c.close_log.new.self _
    (closed_left g.D.LogFolder.history c.args.folder.now c.close_log.new.self c.args.log used c.args.base.now c.args.now.now stands
    c.close_log.result back))

pub returns-in_err-mark_found-clause-any_moment : goal.returns-in_err-mark_found-clause-any_moment
returns-in_err-mark_found-clause-any_moment g c used stands =
    let back = subst (λ f. IsReturned g.D.LogFolder.history g.F.LogFile.history c.args.folder.now c.close_log.new.self f c.close_log.result)
    c.into_parts-file.ensures c.close_log.ensures.returned in
    mark_renewing g.D.LogFolder.history c.args.folder.now c.close_log.new.self c.args.log used c.args.base.now c.args.now.now
    stands c.close_log.result back
    (subst (λ f. (s : Folder) (b : List ℕ) → g.D.LogFolder.history.held c.args.folder.now ≡ Some s → g.F.LogFile.history.held f ≡ Some b
    → g.D.LogFolder.history.held c.close_log.new.self ≡ Some (with_log b s)) c.into_parts-file.ensures c.in_ok-close_log.ensures.returned.held) c.mark_found.new.folder c.mark_found.ensures.any_moment

pub returns-in_err-write_changed-clause-any_moment : goal.returns-in_err-write_changed-clause-any_moment
returns-in_err-write_changed-clause-any_moment g c used stands =
    let back = subst (λ f. IsReturned g.D.LogFolder.history g.F.LogFile.history c.args.folder.now c.close_log.new.self f c.close_log.result)
    c.into_parts-file.ensures c.close_log.ensures.returned in
    bring_renewing g.D.LogFolder.history c.args.folder.now c.close_log.new.self c.args.log used c.args.base.now c.args.now.now
    stands c.close_log.result back
    (subst (λ f. (s : Folder) (b : List ℕ) → g.D.LogFolder.history.held c.args.folder.now ≡ Some s → g.F.LogFile.history.held f ≡ Some b
    → g.D.LogFolder.history.held c.close_log.new.self ≡ Some (with_log b s)) c.into_parts-file.ensures c.in_ok-close_log.ensures.returned.held) c.mark_found.new.folder c.mark_found.ensures.any_moment c.write_changed.new.folder
    c.in_ok-mark_found.ensures.ok c.write_changed.ensures.any_moment

pub returns-clause-any_moment : goal.returns-clause-any_moment
returns-clause-any_moment g c used stands =
    let back = subst (λ f. IsReturned g.D.LogFolder.history g.F.LogFile.history c.args.folder.now c.close_log.new.self f c.close_log.result)
    c.into_parts-file.ensures c.close_log.ensures.returned in
    new_renewing g.D.LogFolder.history c.args.folder.now c.close_log.new.self c.args.log used c.args.base.now c.args.now.now
    stands c.close_log.result back
    (subst (λ f. (s : Folder) (b : List ℕ) → g.D.LogFolder.history.held c.args.folder.now ≡ Some s → g.F.LogFile.history.held f ≡ Some b
    → g.D.LogFolder.history.held c.close_log.new.self ≡ Some (with_log b s)) c.into_parts-file.ensures c.in_ok-close_log.ensures.returned.held) c.mark_found.new.folder c.mark_found.ensures.any_moment c.write_changed.new.folder
    c.in_ok-mark_found.ensures.ok c.write_changed.ensures.any_moment c.make_new.new.folder c.write_changed.ensures.landing
    c.in_ok-write_changed.ensures.ok c.make_new.ensures.any_moment

pub returns-clause-ok : goal.returns-clause-ok
returns-clause-ok g c =
    let back = subst (λ f. IsReturned g.D.LogFolder.history g.F.LogFile.history c.args.folder.now c.close_log.new.self f c.close_log.result)
    c.into_parts-file.ensures c.close_log.ensures.returned in
    if_made (λ (used : Bool) new. Stands g.D.LogFolder.history c.args.folder.now (Some c.args.log) used c.args.base.now c.args.now.now
    → IsServing g.D.LogFolder.history c.make_new.new.folder new c.args.now.now) _ c.make_new.result c.make_new.ensures.ok
    (λ new used serves stands.
    new_serves g.D.LogFolder.history c.args.folder.now c.close_log.new.self c.args.log used c.args.base.now c.args.now.now
    stands c.close_log.result back
    (subst (λ f. (s : Folder) (b : List ℕ) → g.D.LogFolder.history.held c.args.folder.now ≡ Some s → g.F.LogFile.history.held f ≡ Some b
    → g.D.LogFolder.history.held c.close_log.new.self ≡ Some (with_log b s)) c.into_parts-file.ensures c.in_ok-close_log.ensures.returned.held) c.mark_found.new.folder c.mark_found.ensures.any_moment c.write_changed.new.folder
    c.in_ok-mark_found.ensures.ok c.write_changed.ensures.any_moment c.make_new.new.folder c.write_changed.ensures.landing
    c.in_ok-write_changed.ensures.ok c.make_new.ensures.any_moment new serves)

-- a log whose name has gone
pub returns-in_err-close_log-clause-away : goal.returns-in_err-close_log-clause-away
returns-in_err-close_log-clause-away g c away = (
  c.from_residual.ensures.0,
  alone_under g.D.LogFolder.history c.args.folder.now c.close_log.new.self (Some c.args.log) c.args.log refl c.close_log.result
      (subst (λ f. IsReturned g.D.LogFolder.history g.F.LogFile.history c.args.folder.now c.close_log.new.self f
      c.close_log.result) c.into_parts-file.ensures c.close_log.ensures.returned),
)

pub returns-in_err-mark_found-clause-away : goal.returns-in_err-mark_found-clause-away
returns-in_err-mark_found-clause-away g c away = absurd (false≢true (c.in_ok-close_log.ensures.away
    (subst (λ f. g.D.LogFolder.IsAway c.args.folder.now f) (sym c.into_parts-file.ensures) away)))

pub returns-in_err-write_changed-clause-away : goal.returns-in_err-write_changed-clause-away
returns-in_err-write_changed-clause-away g c away = absurd (false≢true (c.in_ok-close_log.ensures.away
    (subst (λ f. g.D.LogFolder.IsAway c.args.folder.now f) (sym c.into_parts-file.ensures) away)))

pub returns-clause-away : goal.returns-clause-away
returns-clause-away g c away = absurd (false≢true (c.in_ok-close_log.ensures.away
    (subst (λ f. g.D.LogFolder.IsAway c.args.folder.now f) (sym c.into_parts-file.ensures) away)))
