-- What is taken isn't cut short, since no loss is accepted; and of what isn't taken a file is.
use Rattle.std.proofs.Common.{◌∙◌, ℕ, List, refl, subst, sym, ⊎_elim}
use Rattle.std.proofs.lemmas.Bool.{false≢true}
use Rattle.std.specs.Prelude.{◌↔◌, Bool, IfOk, IsTrue, Result}
use Rattle.command_faults.specs.declared.faults.CommandFault.{CommandFault}
use Rattle.disk_changes.specs.Remedies.{HasNoneCut}
use Rattle.disk_changes.proofs.Remedied.{one-cut}
use Rattle.disk_changes.proofs.remedies.is_uncut.Goals as goal
use Rattle.disk_changes.proofs.remedies.is_uncut.Goals.{in-Err+in_ok-known_refusal-in-Err, in-Ok}

pub returns-clause-ok : goal.returns-clause-ok
returns-clause-ok c =
    let P : Result Bool CommandFault → Type 0 = λ r. IfOk r (λ uncut. IsTrue uncut ↔ HasNoneCut c.args.image.now) in
    elim c.match-taken_disk.branch [
      | in-Ok w ↦ subst P (sym w.result-is)
          (λ t p short. ⊎_elim (λ same. cc) (λ uncut. uncut p short) w.in-Ok.ensures.ok.0.1, λ none. refl)
      | in-Err+in_ok-known_refusal-in-Err w ↦ subst P (sym w.result-is) (
        λ t. absurd (false≢true t),
        λ none. absurd (one-cut c.args.image.now w.in-Err.fault c.requires w.in-Err.ensures.err
            (λ lack. w.in_ok-known_refusal-in-Err.ensures.ok.1 (w.in_ok-known_refusal-in-Err.ensures.ok.0 ∙ lack)) none),
      )
    ]
