-- The call on the disk in memory, and what it tells.
use Rattle.std.proofs.Common.{◌∙◌, ap, Err}
use Rattle.std.proofs.lemmas.Result.{IfOk-weaker, err_from_is_err_and}
use Rattle.disk_changes.proofs.MadeFile.{make-done, make-refused}
use Rattle.disk_changes.proofs.Usable.{usable-image}
use Rattle.disk_changes.proofs.making.made.Goals as goal

pub create-requires-clause-usable : goal.create-requires-clause-usable
create-requires-clause-usable c = usable-image _ _ _ c.in_ok-disk.ensures.ok.1 c.in_ok-disk.ensures.ok.0

pub returns-in_err-create-clause-err : goal.returns-in_err-create-clause-err
returns-in_err-create-clause-err c =
    let p = err_from_is_err_and c.from_residual-in_err-create.result c.from_residual-in_err-create.ensures.1 in
    rw (p.1 ∙ ap Err p.2)
    (make-refused c.args.image.now c.args.name.now c.args.size c.args.cut c.in_ok-disk.disk c.create.new.disk
    c.in_ok-disk.ensures.ok.0 c.in_ok-disk.ensures.ok.1 c.in_err-create.field-0.0 c.in_err-create.ensures)

pub returns-clause-ok : goal.returns-clause-ok
returns-clause-ok c = IfOk-weaker c.changed.result _ _
    (λ made is. make-done c.args.image.now c.args.name.now c.args.size c.args.cut c.in_ok-disk.disk c.create.new.disk
    c.in_ok-disk.ensures.ok.0 c.in_ok-disk.ensures.ok.1 _ c.in_ok-create.ensures
    made is.0 is.1) c.changed.ensures.ok
