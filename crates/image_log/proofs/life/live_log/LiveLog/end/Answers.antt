-- The log is landed.
use Rattle.std.proofs.Common.{◌≡◌, ◌∙◌, List, subst, sym, ℕ}
use Rattle.std.specs.Prelude.{IfSome, OnOk, Some}
use Rattle.d64_image.specs.Images.{Image}
use Rattle.image_log.specs.Logs.{log_file}
use Rattle.image_log.specs.life.Bringing.{RestsAlone}
use Rattle.image_log.specs.life.Folders.{Folder}
use Rattle.image_log.specs.life.LiveLogs.{IsRenewing, Stands}
use Rattle.image_log.proofs.lemmas.life.Times.{on_ok}
use Rattle.image_log.proofs.life.live_log.LiveLog.end.Goals as goal

pub returns-clause-any_moment : goal.returns-clause-any_moment
returns-clause-any_moment g c image stands =
    let h = g.D.LogFolder.history in
    let l = c.args.self in
    let same : c.as_slice-shop.result.now ≡ image = c.as_slice-shop.ensures.value ∙ stands.1 in
    let here = subst (λ (b : Image). Stands h l.folder l.log l.used b c.as_slice-shop.result.now) (sym c.as_slice-base.ensures.value)
    (subst (λ (i : Image). Stands h l.folder l.log l.used l.base.items i) (sym same) stands.0) in
    subst (λ (i : Image). IsRenewing h l.folder l.log l.used c.end_log-ended.new.folder i) same
    (c.end_log-ended.ensures.any_moment l.used here)

pub returns-clause-ok : goal.returns-clause-ok
returns-clause-ok g c = on_ok _ _ c.end_log-ended.result (λ rests image stands.
    let h = g.D.LogFolder.history in
    let l = c.args.self in
    let same : c.as_slice-shop.result.now ≡ image = c.as_slice-shop.ensures.value ∙ stands.1 in
    let here = subst (λ (b : Image). Stands h l.folder l.log l.used b c.as_slice-shop.result.now) (sym c.as_slice-base.ensures.value)
    (subst (λ (i : Image). Stands h l.folder l.log l.used l.base.items i) (sym same) stands.0) in
    subst (λ (i : Image). RestsAlone h c.end_log-ended.new.folder i) same (rests l.used here)) c.end_log-ended.ensures.ok

pub returns-clause-own : goal.returns-clause-own
returns-clause-own g c = subst (λ (b : Image). IfSome c.args.self.log (λ l. OnOk c.end_log-ended.result ((s : Folder) (f : List ℕ)
    → g.D.LogFolder.history.held c.args.self.folder ≡ Some s → g.F.LogFile.history.held (log_file l) ≡ Some f → s.image ≡ b)))
    c.as_slice-base.ensures.value c.end_log-ended.ensures.own
