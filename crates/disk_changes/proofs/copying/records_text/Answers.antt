-- The lines that were printed into memory.
use Rattle.disk_changes.proofs.RecordCopies.{cut-text, no-text, text-of}
use Rattle.disk_changes.proofs.copying.records_text.Goals as goal

pub returns-in-Ok-None-clause-ok : goal.returns-in-Ok-None-clause-ok
returns-in-Ok-None-clause-ok c =
    let (printed, told) = c.in-Ok-None.ensures.ok in
    text-of c.args.source.now c.args.name.now printed.file printed.is_file c.in-Ok-None.field-0 told c.in-Ok-None.field-0-is
    c.new-text.result.items _ c.new-text.ensures.items printed.printed

pub returns-in-Ok-Some-clause-err : goal.returns-in-Ok-Some-clause-err
returns-in-Ok-Some-clause-err c =
    let (printed, told) = c.in-Ok-Some.ensures.ok in
    cut-text c.args.source.now c.args.name.now printed.file printed.is_file c.in-Ok-Some.field-0 c.in-Ok-Some.place told
    c.in-Ok-Some.field-0-is

pub returns-in-Err-clause-err : goal.returns-in-Err-clause-err
returns-in-Err-clause-err c = rw c.in_memory.ensures
    (no-text c.args.source.now c.args.name.now _ c.new-text.result c.records_image.new.out c.in-Err.fault c.in-Err.ensures.err)
