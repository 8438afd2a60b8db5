-- The line was gathered, and handed over or a part of it.
use Rattle.std.proofs.Common.{Err, List, ℕ, ap, subst, ◌∙◌}
use Rattle.std.specs.Prelude.{OnErr, OnOk}
use Rattle.std.proofs.lemmas.Result.{err_from_is_err_and}
use Rattle.std.specs.Io.KnownBytes.{Appends}
use Rattle.command_faults.proofs.Parts.{part-none}
use Rattle.command_faults.specs.Outputs.{HandsPart}
use Rattle.disk_changes.proofs.mended.mending.print_about.Goals as goal

pub returns-in_err-line-clause-part : goal.returns-in_err-line-clause-part
returns-in_err-line-clause-part g c =
    let p = err_from_is_err_and c.from_residual.result c.from_residual.ensures.1 in
    rw (p.1 ∙ ap Err p.2) (part-none _ _)

pub returns-clause-ok : goal.returns-clause-ok
returns-clause-ok g c = subst (λ (bs : List ℕ). OnOk c.put.result
    (Appends (g.W.Write.contents c.args.out.now) (g.W.Write.contents c.put.new.out) bs))
    (c.as_slice.ensures.value ∙ c.in_ok-line.ensures.ok) c.put.ensures.ok

pub returns-clause-part : goal.returns-clause-part
returns-clause-part g c = subst (λ (bs : List ℕ). OnErr c.put.result
    (HandsPart (g.W.Write.contents c.args.out.now) (g.W.Write.contents c.put.new.out) bs))
    (c.as_slice.ensures.value ∙ c.in_ok-line.ensures.ok) c.put.ensures.part
