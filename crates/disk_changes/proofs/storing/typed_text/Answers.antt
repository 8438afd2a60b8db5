-- The file was found, and the lines made over its records; or why not.
use Rattle.std.proofs.Common.{◌∙◌, ap, Err}
use Rattle.std.proofs.lemmas.Result.{err_from_is_err_and}
use Rattle.disk_changes.proofs.TypedRecords.{find-refused, of-file, sound-disk, typed-text}
use Rattle.disk_changes.proofs.storing.typed_text.Goals as goal

pub find-requires : goal.find-requires
find-requires c = record {
  sound = sound-disk c.args.image.now c.args.name.now c.args.cut c.in_ok-disk.disk c.in_ok-disk.disk c.in_ok-disk.ensures.ok.0
      c.in_ok-disk.ensures.ok.1;
}

pub returns-in_err-file-clause-err : goal.returns-in_err-file-clause-err
returns-in_err-file-clause-err c =
    let p = err_from_is_err_and c.from_residual-in_err-file.result c.from_residual-in_err-file.ensures.1 in
    rw (p.1 ∙ ap Err p.2)
    (find-refused c.args.image.now c.args.name.now c.args.cut c.in_ok-disk.disk c.find.new.disk c.in_ok-disk.ensures.ok.0
    c.in_ok-disk.ensures.ok.1 c.in_err-file.field-0.0 c.in_err-file.ensures)

pub typed_lines-requires : goal.typed_lines-requires
typed_lines-requires c =
    of-file c.args.image.now c.args.name.now c.args.cut c.in_ok-disk.disk c.find.new.disk c.in_ok-disk.ensures.ok.0
    c.in_ok-disk.ensures.ok.1 c.in_ok-file.file c.in_ok-file.ensures

pub returns-in-Ok-clause-ok : goal.returns-in-Ok-clause-ok
returns-in-Ok-clause-ok c =
    typed-text c.args.image.now c.args.name.now c.args.cut c.in_ok-disk.disk c.find.new.disk c.in_ok-disk.ensures.ok.0
    c.in_ok-disk.ensures.ok.1 c.in_ok-file.file c.in_ok-file.ensures c.args.set c.args.text.now _ c.in-Ok.ensures
