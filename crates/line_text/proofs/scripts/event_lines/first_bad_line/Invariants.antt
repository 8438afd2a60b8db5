-- No line so far is bad, and each took a byte of the script.
use Rattle.std.proofs.Common.{◌≡◌, ◌≤◌, ◌+◌, length}
use Rattle.std.specs.Prelude.{option_map}
use Rattle.line_text.specs.scripts.Lines.{lines}
use Rattle.line_text.specs.scripts.Resets.{first_bad}
use Rattle.line_text.proofs.scripts.event_lines.first_bad_line.Given as goal

abbrev pub invariant-loop-line : goal.invariant-loop-line
invariant-loop-line l = record {
  passed : first_bad (lines l.script) ≡ option_map (λ n. l.number + n) (first_bad (lines l.rest));
  room : l.number + length l.rest ≤ length l.script;
}

abbrev pub decreases-loop-line : goal.decreases-loop-line
decreases-loop-line l = length l.rest
