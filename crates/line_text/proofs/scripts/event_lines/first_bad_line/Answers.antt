-- Without an @ no line is bad.
use Rattle.std.proofs.Common.{◌≡◌, false, rules, sym, ◌∙◌, arith}
use Rattle.line_text.specs.scripts.Lines.{lines}
use Rattle.line_text.specs.scripts.Resets.{first_bad}
use Rattle.line_text.proofs.lemmas.scripts.Plain.{from_zero, no_reset}
use Rattle.line_text.proofs.scripts.event_lines.first_bad_line.Goals as goal

pub returns-then-not-has_byte : goal.returns-then-not-has_byte
returns-then-not-has_byte c =
    let absent : c.has_byte.result ≡ false = search rules in
    sym (no_reset c.args.script.now (sym c.has_byte.ensures ∙ absent))

pub loop-line-init : goal.loop-line-init
loop-line-init c = record {
  passed = from_zero (first_bad (lines c.args.script.now));
  room = omega arith;
}
