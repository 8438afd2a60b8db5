-- There was no memory for the lines.
use Rattle.std.proofs.Common.{inr}
use Rattle.std.proofs.lemmas.Result.{err_from_is_err_and}
use Rattle.file_rescues.proofs.lemmas.rescue.Parts.{none-added}
use Rattle.file_rescues.proofs.rescue.making.make_records.Goals as goal

pub returns-in_err-lines-clause-err : goal.returns-in_err-lines-clause-err
returns-in_err-lines-clause-err g c =
    let p = err_from_is_err_and c.from_residual.result c.from_residual.ensures.1 in
    rw (p.1, p.2) (inr c.in_err-lines.ensures.err, none-added _ _)
