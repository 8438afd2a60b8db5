-- The lines of the first image, and then those of the second.
use Rattle.std.proofs.Common.{◌++◌, List, ap, inl, inr, ℕ, ◌∙◌}
use Rattle.std.proofs.lemmas.Result.{err_from_is_err_and}
use Rattle.image_looks.proofs.Compared.{both-are}
use Rattle.image_looks.proofs.comparisons.both_missing.Goals as goal

pub returns-in_err-add_missing-clause-err : goal.returns-in_err-add_missing-clause-err
returns-in_err-add_missing-clause-err c =
    let p = err_from_is_err_and c.from_residual.result c.from_residual.ensures.1 in
    rw (p.1, p.2) (inl c.in_err-add_missing.ensures.err)

pub returns-in_err-add_missing-2-clause-err : goal.returns-in_err-add_missing-2-clause-err
returns-in_err-add_missing-2-clause-err c =
    let p = err_from_is_err_and c.from_residual-in_err-add_missing-2.result
    c.from_residual-in_err-add_missing-2.ensures.1 in
    rw (p.1, p.2) (inr c.in_err-add_missing-2.ensures.err)

pub returns-clause-ok : goal.returns-clause-ok
returns-clause-ok c =
    both-are c.args.before.now c.args.after.now c.new-lines.result.items c.add_missing.new.lines.items
    c.add_missing-2.new.lines.items c.new-lines.ensures.items c.in_ok-add_missing.ensures.ok
    c.in_ok-add_missing-2.ensures.ok
