-- The line is cut at its ends.
use Rattle.std.proofs.Common.{ap, take, ◌++◌, ◌∙◌, List, ℕ}
use Rattle.std.proofs.lemmas.Bool.{ne_eqb}
use Rattle.std.proofs.lemmas.List.{take_rest}
use Rattle.std.proofs.lemmas.Result.{on_ok_weaker}
use Rattle.std.specs.Prelude.{vec_items}
use Rattle.line_text.proofs.lemmas.columns.Ends.{pushed}
use Rattle.line_text.specs.columns.Columns.{marked_text}
use Rattle.line_text.specs.columns.Marks.{without_marks}
use Rattle.line_text.proofs.columns.reading.push_columns.Goals as goal

pub returns : goal.returns
returns c = on_ok_weaker c.push_marked.result
    (λ done. done ∙ ap (λ (t : List ℕ). vec_items c.args.text.now ++ t)
    (ap (marked_text _) (c.without_marks.ensures
    ∙ ap without_marks (take_rest (take c.end_before.result c.args.line.now) c.end_before-start.result))
    ∙ pushed c.args.line.now c.end_before.result c.end_before-start.result c.end_before.ensures.is
    c.end_before-start.ensures.is (ne_eqb c.end_before-start.result 0 c.if-start-eq0.false)))
    c.push_marked.ensures
