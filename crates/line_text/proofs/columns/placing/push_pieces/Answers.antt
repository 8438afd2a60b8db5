-- Column by column.
use Rattle.std.proofs.Common.{◌∙◌, arith}
use Rattle.std.proofs.lemmas.List.{take_rest}
use Rattle.std.proofs.lemmas.Result.{on_ok_weaker}
use Rattle.line_text.proofs.lemmas.columns.Places.{one-more, one-too-many, too-long}
use Rattle.line_text.proofs.columns.placing.push_pieces.Goals as goal

pub returns-in_default-positions : goal.returns-in_default-positions
returns-in_default-positions c =
    on_ok_weaker c.push_mark.result
    (λ done. done ∙ one-too-many _ _ c.loop-rest.rest c.in-Some.columns c.loop-rest.end c.loop-rest.positions.now
    c.in-Some.is c.in_default-positions.len_below c.loop-rest.invariant)
    c.push_mark.ensures

pub returns-then-end-from : goal.returns-then-end-from
returns-then-end-from c =
    on_ok_weaker c.push_mark-then-end-from.result
    (λ done. done ∙ too-long _ _ c.loop-rest.end c.loop-rest.positions.now _ c.in-len1-up.len_at_least
    (omega (arith, c.if-end-from.true)) c.loop-rest.invariant)
    c.push_mark-then-end-from.ensures

pub loop-rest-preserved : goal.loop-rest-preserved
loop-rest-preserved c =
    rw (take_rest c.loop-rest.positions.now 1)
    (one-more _ _ _ c.loop-rest.rest c.first_column.result.1 c.in-Some.columns c.loop-rest.end _ c.loop-rest.positions.now
    c.first_column.result.0.now c.without_marks.result.now c.in-Some.is c.in-len1-up.len_at_least
    (omega (arith, c.if-end-from.false)) c.first_column.ensures c.without_marks.ensures c.in_ok-end.ensures.after
    c.in_ok-end.ensures.text c.loop-rest.invariant)
