-- The log is closed, and landed.
use Rattle.std.proofs.Common.{◌≡◌, ℕ, List, Some, refl, subst, sym}
use Rattle.std.proofs.lemmas.Bool.{false≢true}
use Rattle.image_log.specs.life.Folders.{Folder, IsReturned, with_log}
use Rattle.image_log.specs.life.LiveLogs.{IsRenewing}
use Rattle.image_log.proofs.lemmas.life.Moves.{under_name}
use Rattle.image_log.proofs.lemmas.life.Renewed.{closed_left, kept_ended, kept_rests, renewing}
use Rattle.image_log.proofs.lemmas.life.Steps.{started}
use Rattle.image_log.proofs.lemmas.life.Alone.{alone_under, away_under, said_under, was_open}
use Rattle.image_log.proofs.lemmas.life.Failing.{not_ok}
use Rattle.image_log.proofs.lemmas.life.Times.{on_ok}
use Rattle.image_log.proofs.life.ending.end_log.Goals as goal

pub returns-in_err-close_log-clause-any_moment : goal.returns-in_err-close_log-clause-any_moment
returns-in_err-close_log-clause-any_moment g c used stands =
    let h = g.D.LogFolder.history in
    let d = c.args.folder.now in
    let a = c.close_log.new.self in
    let start = c.args.base.now in
    let image = c.args.shop.now in
    let here = under_name h d c.args.log c.in-Some.open_log used start start image c.in-Some.is refl stands in
    let back = subst (λ f. IsReturned h g.F.LogFile.history d a f c.close_log.result) c.into_file.ensures c.close_log.ensures.returned in
    subst (λ o. IsRenewing h d o used a image) (sym c.in-Some.is)
    (renewing h d a c.in-Some.open_log used start image here c.close_log.result back a
    (started h a _ (closed_left h d a c.in-Some.open_log used start image here c.close_log.result back)))

pub returns-clause-any_moment : goal.returns-clause-any_moment
returns-clause-any_moment g c used stands =
    let h = g.D.LogFolder.history in
    let d = c.args.folder.now in
    let a = c.close_log.new.self in
    let start = c.args.base.now in
    let image = c.args.shop.now in
    let here = under_name h d c.args.log c.in-Some.open_log used start start image c.in-Some.is refl stands in
    let back = subst (λ f. IsReturned h g.F.LogFile.history d a f c.close_log.result) c.into_file.ensures c.close_log.ensures.returned in
    subst (λ o. IsRenewing h d o used c.land_kept.new.folder image) (sym c.in-Some.is)
    (kept_ended h d a c.in-Some.open_log used start image here c.close_log.result back
    (subst (λ f. (s : Folder) (b : List ℕ) → h.held d ≡ Some s → g.F.LogFile.history.held f ≡ Some b → h.held a ≡ Some (with_log b s))
    c.into_file.ensures c.in_ok-close_log.ensures.returned.held) c.land_kept.new.folder c.land_kept.ensures.any_moment)

pub returns-clause-ok : goal.returns-clause-ok
returns-clause-ok g c = on_ok _ _ c.land_kept.result (λ landed used stands.
    let h = g.D.LogFolder.history in
    let d = c.args.folder.now in
    let a = c.close_log.new.self in
    let start = c.args.base.now in
    let image = c.args.shop.now in
    let here = under_name h d c.args.log c.in-Some.open_log used start start image c.in-Some.is refl stands in
    let back = subst (λ f. IsReturned h g.F.LogFile.history d a f c.close_log.result) c.into_file.ensures c.close_log.ensures.returned in
    kept_rests h d a c.in-Some.open_log used start image here c.close_log.result back
    (subst (λ f. (s : Folder) (b : List ℕ) → h.held d ≡ Some s → g.F.LogFile.history.held f ≡ Some b → h.held a ≡ Some (with_log b s))
    c.into_file.ensures c.in_ok-close_log.ensures.returned.held) c.land_kept.new.folder landed)
    c.land_kept.ensures.ok

-- IMAGE was the base
pub returns-in_err-close_log-clause-own : goal.returns-in_err-close_log-clause-own
returns-in_err-close_log-clause-own g c = said_under g.D.LogFolder.history c.args.log c.in-Some.open_log c.in-Some.is _
    (not_ok _ c.from_residual.result c.from_residual.ensures.0)

pub returns-then-is_over-clause-own : goal.returns-then-is_over-clause-own
returns-then-is_over-clause-own g c = said_under g.D.LogFolder.history c.args.log c.in-Some.open_log c.in-Some.is _ tt

pub returns-clause-own : goal.returns-clause-own
returns-clause-own g c = said_under g.D.LogFolder.history c.args.log c.in-Some.open_log c.in-Some.is _
    (on_ok _ _ c.land_kept.result (λ own s f held known.
    own (with_log f s) (subst (λ l. (s : Folder) (b : List ℕ) → g.D.LogFolder.history.held c.args.folder.now ≡ Some s
    → g.F.LogFile.history.held l ≡ Some b → g.D.LogFolder.history.held c.close_log.new.self ≡ Some (with_log b s))
    c.into_file.ensures c.in_ok-close_log.ensures.returned.held s f held known)) c.land_kept.ensures.own)

pub returns-in_err-close_log-clause-over : goal.returns-in_err-close_log-clause-over
returns-in_err-close_log-clause-over g c shut = (
  c.from_residual.ensures.0,
  alone_under g.D.LogFolder.history c.args.folder.now c.close_log.new.self c.args.log c.in-Some.open_log
      c.in-Some.is c.close_log.result (subst (λ f. IsReturned g.D.LogFolder.history g.F.LogFile.history c.args.folder.now
      c.close_log.new.self f c.close_log.result) c.into_file.ensures c.close_log.ensures.returned),
)

pub returns-then-is_over-clause-over : goal.returns-then-is_over-clause-over
returns-then-is_over-clause-over g c shut = (
  refl,
  alone_under g.D.LogFolder.history c.args.folder.now c.close_log.new.self c.args.log c.in-Some.open_log
      c.in-Some.is c.close_log.result (subst (λ f. IsReturned g.D.LogFolder.history g.F.LogFile.history c.args.folder.now
      c.close_log.new.self f c.close_log.result) c.into_file.ensures c.close_log.ensures.returned),
)

pub returns-clause-over : goal.returns-clause-over
returns-clause-over g c shut = absurd (was_open g.D.LogFolder.history c.args.log c.in-Some.open_log c.in-Some.is
    c.is_closed-is_over.result c.is_closed-is_over.ensures.1 c.if-is_over.false shut)

-- one whose name has gone
pub returns-in_err-close_log-clause-away : goal.returns-in_err-close_log-clause-away
returns-in_err-close_log-clause-away g c = away_under g.D.LogFolder.history c.args.log c.in-Some.open_log c.in-Some.is
    (g.D.LogFolder.IsAway c.args.folder.now) _ (λ away. (
      c.from_residual.ensures.0,
      alone_under g.D.LogFolder.history c.args.folder.now c.close_log.new.self c.args.log c.in-Some.open_log
          c.in-Some.is c.close_log.result (subst (λ f. IsReturned g.D.LogFolder.history g.F.LogFile.history c.args.folder.now
          c.close_log.new.self f c.close_log.result) c.into_file.ensures c.close_log.ensures.returned),
    ))

pub returns-then-is_over-clause-away : goal.returns-then-is_over-clause-away
returns-then-is_over-clause-away g c = away_under g.D.LogFolder.history c.args.log c.in-Some.open_log c.in-Some.is
    (g.D.LogFolder.IsAway c.args.folder.now) _ (λ away. (
      refl,
      alone_under g.D.LogFolder.history c.args.folder.now c.close_log.new.self c.args.log c.in-Some.open_log
          c.in-Some.is c.close_log.result (subst (λ f. IsReturned g.D.LogFolder.history g.F.LogFile.history c.args.folder.now
          c.close_log.new.self f c.close_log.result) c.into_file.ensures c.close_log.ensures.returned),
    ))

pub returns-clause-away : goal.returns-clause-away
returns-clause-away g c = away_under g.D.LogFolder.history c.args.log c.in-Some.open_log c.in-Some.is
    (g.D.LogFolder.IsAway c.args.folder.now) _ (λ away. absurd (false≢true (c.in_ok-close_log.ensures.away
    (subst (λ f. g.D.LogFolder.IsAway c.args.folder.now f) (sym c.into_file.ensures) away))))
