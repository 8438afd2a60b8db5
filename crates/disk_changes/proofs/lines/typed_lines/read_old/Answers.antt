-- The record was read; or there is no such record.
use Rattle.std.proofs.Common.{◌∙◌, sym}
use Rattle.disk_changes.proofs.lemmas.lines.Typed.{none-read, was-read}
use Rattle.disk_changes.proofs.lines.typed_lines.read_old.Goals as goal

pub returns-then-is_err : goal.returns-then-is_err
returns-then-is_err c = record {
  same = c.read_record.ensures.reads.image;
  old = λ l n f of. c.clear.ensures ∙ none-read c.args.disk.now c.read_record.new.disk l n f c.args.file.now c.args.number
      c.read_record.new.text.items c.requires.low of c.read_record.result c.read_record.ensures
      (sym c.is_err.ensures.value ∙ c.if-is_err.true);
}

pub returns-else-is_err-clause-old : goal.returns-else-is_err-clause-old
returns-else-is_err-clause-old c = λ l n f of. was-read c.args.disk.now c.read_record.new.disk l n f c.args.file.now
    c.args.number c.read_record.new.text.items c.requires.low of c.read_record.result c.read_record.ensures
    (sym c.is_err.ensures.value ∙ c.if-is_err.false)
