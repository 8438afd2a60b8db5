-- A byte more was joined, and at last the end.
use Rattle.std.proofs.Common.{arith, ◌∙◌}
use Rattle.std.proofs.lemmas.Result.{on_ok_weaker}
use Rattle.line_text.proofs.lemmas.columns.Fields.{by-end, by-next}
use Rattle.line_text.proofs.columns.reading.push_fields.Goals as goal

pub loop-byte-preserved : goal.loop-byte-preserved
loop-byte-preserved c =
    by-next _ _ _ c.args.line.now c.loop-byte.column _ c.loop-byte.byte-index (omega arith)
    c.in_ok-push_given.ensures c.after-column.ensures c.loop-byte.invariant

pub returns : goal.returns
returns c = on_ok_weaker c.push_end.result
    (λ done. done ∙ by-end _ _ c.args.line.now c.loop-byte.column c.loop-byte.byte-index c.loop-byte-test.false
    c.loop-byte.invariant)
    c.push_end.ensures
