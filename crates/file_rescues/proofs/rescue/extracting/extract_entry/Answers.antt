-- The files were made, and there was no memory for what the index says of them.
use Rattle.std.proofs.Common.{inr}
use Rattle.std.proofs.lemmas.Result.{err_from_is_err_and}
use Rattle.file_rescues.proofs.lemmas.rescue.Parts.{added-all}
use Rattle.file_rescues.proofs.rescue.extracting.extract_entry.Goals as goal

pub returns-in_err-blocks-clause-err : goal.returns-in_err-blocks-clause-err
returns-in_err-blocks-clause-err g c =
    let p = err_from_is_err_and c.from_residual-in_err-blocks.result c.from_residual-in_err-blocks.ensures.1 in
    rw (p.1, p.2) (inr c.in_err-blocks.ensures.err, added-all _ _ _ c.in_ok-row.ensures.ok)

pub returns-in_err-sectors-clause-err : goal.returns-in_err-sectors-clause-err
returns-in_err-sectors-clause-err g c =
    let p = err_from_is_err_and c.from_residual-in_err-sectors.result c.from_residual-in_err-sectors.ensures.1 in
    rw (p.1, p.2) (inr c.in_err-sectors.ensures.err, added-all _ _ _ c.in_ok-row.ensures.ok)

pub returns-in_err-put-clause-err : goal.returns-in_err-put-clause-err
returns-in_err-put-clause-err g c =
    let p = err_from_is_err_and c.from_residual-in_err-put.result c.from_residual-in_err-put.ensures.1 in
    rw (p.1, p.2) (inr c.in_err-put.ensures.err, added-all _ _ _ c.in_ok-row.ensures.ok)
