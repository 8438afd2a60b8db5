-- Byte by byte, up to the comma or to the end.
use Rattle.std.proofs.Common.{◌∙◌, ◌+◌, Bool, ap, drop, false, sym, take}
use Rattle.std.proofs.lemmas.List.{take_rest}
use Rattle.line_text.proofs.lemmas.columns.Cut.{ahead, ahead-comma, ahead-end, ahead-next, none-ahead}
use Rattle.line_text.specs.columns.Pieces.{cut}
use Rattle.line_text.proofs.columns.placing.first_column.Goals as goal

pub loop-end-init : goal.loop-end-init
loop-end-init c = none-ahead c.args.line.now false

pub returns-then-ends_column : goal.returns-then-ends_column
returns-then-ends_column c =
    rw (take_rest c.args.line.now (c.loop-end.end + 1))
    (c.loop-end.invariant ∙ ahead-comma c.args.line.now c.loop-end.marked c.loop-end.end c.loop-end-test.true
    (sym c.ends_column.ensures ∙ c.if-ends_column.true))

pub loop-end-preserved : goal.loop-end-preserved
loop-end-preserved c =
    c.loop-end.invariant
    ∙ ahead-next c.args.line.now c.loop-end.marked c.loop-end.end c.loop-end-test.true
    (sym c.ends_column.ensures ∙ c.if-ends_column.false)
    ∙ ap (λ (m : Bool). ahead (take (c.loop-end.end + 1) c.args.line.now) (cut m (drop (c.loop-end.end + 1) c.args.line.now)))
    (sym c.toggled-marked.ensures)

pub returns : goal.returns
returns c = c.loop-end.invariant ∙ ahead-end c.args.line.now c.loop-end.marked c.loop-end.end c.loop-end-test.false
