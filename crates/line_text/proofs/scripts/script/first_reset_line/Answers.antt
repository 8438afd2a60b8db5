-- Without an @ no line is bad.
use Rattle.std.proofs.Common.{◌≡◌, false, rules, sym, ◌∙◌}
use Rattle.line_text.proofs.lemmas.scripts.Lines.{no_at}
use Rattle.line_text.proofs.scripts.script.first_reset_line.Goals as goal

pub returns-then-not-has_byte : goal.returns-then-not-has_byte
returns-then-not-has_byte c =
    let absent : c.has_byte.result ≡ false = search rules in
    sym (no_at c.args.script.now (sym c.has_byte.ensures ∙ absent))
