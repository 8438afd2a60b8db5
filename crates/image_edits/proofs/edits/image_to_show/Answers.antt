-- The bytes that are passed on were looked at.
use Rattle.std.proofs.Common.{List, inr, subst, ℕ, ◌∙◌}
use Rattle.std.proofs.lemmas.Result.{err_from_is_err_and}
use Rattle.opened_files.specs.Losses.{IsNear}
use Rattle.image_log.specs.life.Tags.{SaysLogAway}
use Rattle.image_edits.proofs.edits.image_to_show.Goals as goal

pub returns-in_err-see_log_away-clause-err : goal.returns-in_err-see_log_away-clause-err
returns-in_err-see_log_away-clause-err g c =
    let p = err_from_is_err_and c.from_residual-in_err-see_log_away.result c.from_residual-in_err-see_log_away.ensures.1 in
    let (away, refused, says) = c.in_err-see_log_away.ensures.err in
    rw (p.1, p.2) (inr (
      away,
      refused,
      λ other none all holds. subst (λ (bytes : List ℕ). SaysLogAway bytes)
          (c.as_slice.ensures.value ∙ c.in_ok-image.ensures.read other none all holds) says,
    ))

pub returns-clause-near : goal.returns-clause-near
returns-clause-near g c =
    subst (λ (bytes : List ℕ). IsNear c.args.loss bytes) c.as_slice.ensures.value c.in_ok-see_log_away.ensures.ok
