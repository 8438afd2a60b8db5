-- A line with an @ is a reset.
use Rattle.std.proofs.Common.{sym, ◌∙◌}
use Rattle.line_text.proofs.lemmas.scripts.Resets.{reset_line}
use Rattle.line_text.proofs.scripts.event_lines.event_at.Goals as goal

pub returns-in-Some-eq64-default : goal.returns-in-Some-eq64-default
returns-in-Some-eq64-default c =
    c.reset_at.ensures
    ∙ sym (reset_line c.args.line.now _ _ c.in-Some-eq64-default.ensures.cases.0
    c.in-Some-eq64-default.field-0-0-test)
