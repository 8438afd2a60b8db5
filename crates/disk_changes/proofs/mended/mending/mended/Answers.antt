-- By whether what nobody owns is freed.
use Rattle.std.proofs.Common.{Bool, Err, Ok, ap, subst, sym, ◌∙◌}
use Rattle.std.proofs.lemmas.Result.{err_from_is_err_and}
use Rattle.disk_changes.proofs.lemmas.mended.Repairs.{freed-err, freed-ok, kept-mends}
use Rattle.disk_changes.specs.mended.Repairs.{MendsAs}
use Rattle.disk_changes.proofs.mended.mending.mended.Goals as goal

pub returns-then-not-free : goal.returns-then-not-free
returns-then-not-free g c =
    let S = g.D.Sectors.history in
    subst (λ (f : Bool). MendsAs f S c.args.disk.now c.repair_keeping.new.disk c.repair_keeping.result)
    (sym c.if-not-free.true) (kept-mends S _ _ c.repair_keeping.result c.repair_keeping.ensures)

pub returns-in_err-repair : goal.returns-in_err-repair
returns-in_err-repair g c =
    let S = g.D.Sectors.history in
    let p = err_from_is_err_and c.from_residual.result c.from_residual.ensures.1 in
    rw (p.1 ∙ ap Err p.2)
    (subst (λ (f : Bool). MendsAs f S c.args.disk.now c.repair.new.disk (Err c.in_err-repair.field-0.0))
    (sym c.if-not-free.false) (freed-err S _ _ _ c.in_err-repair.ensures))

pub returns : goal.returns
returns g c =
    let S = g.D.Sectors.history in
    subst (λ (f : Bool). MendsAs f S c.args.disk.now c.repair.new.disk (Ok 0)) (sym c.if-not-free.false)
    (freed-ok S _ _ _ c.in_ok-repair.ensures)
