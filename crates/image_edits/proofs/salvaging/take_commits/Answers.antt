-- The log has its length, and then its image is taken.
use Rattle.std.proofs.Common.{ap, arith, inl, inr, length, List, refl, subst, ◌≤◌, ℕ}
use Rattle.std.specs.Prelude.{Some}
use Rattle.std.proofs.lemmas.Bool.{false≢true}
use Rattle.std.proofs.lemmas.Result.{IfOk-weaker}
use Rattle.image_edits.proofs.Salvaged.{unsalvaged}
use Rattle.image_edits.proofs.salvaging.take_commits.Goals as goal

pub returns-in-Ok-clause-ok : goal.returns-in-Ok-clause-ok
returns-in-Ok-clause-ok c =
    let taken = c.in-Ok.ensures.ok _ (ap Some c.in_ok-complete.ensures.ok)
    (subst (λ (bytes : List ℕ). 4194304 ≤ length bytes) c.in_ok-complete.ensures.ok (omega (arith, c.in_ok-complete.ensures.len))) in
    IfOk-weaker c.salvage_text.result _ _ (λ text said. (c.salvage.new.shop, c.in-Ok.taken, taken, (refl, said)))
    c.salvage_text.ensures.ok

pub returns-in-Err-clause-err : goal.returns-in-Err-clause-err
returns-in-Err-clause-err c = elim c.in-Err.ensures.cause [
  | inl misfit ↦ unsalvaged c.args.log.now.items c.in-Err.fault c.log_refusal.result c.log_refusal.ensures misfit
      (c.in-Err.ensures.refused misfit _ (ap Some c.in_ok-complete.ensures.ok)
      (subst (λ (bytes : List ℕ). 4194304 ≤ length bytes) c.in_ok-complete.ensures.ok (omega (arith, c.in_ok-complete.ensures.len))))
  | inr has_failed ↦ absurd (false≢true has_failed)
]
