-- No line so far is bad, and each took a byte of the script.
use Rattle.std.proofs.Common.{◌≡◌, ◌≤◌, ◌+◌, length}
use Rattle.std.specs.Prelude.{option_map}
use Rattle.line_text.specs.scripts.Lines.{first_reset, lines}
use Rattle.line_text.proofs.scripts.script.first_reset_line.Given as goal

abbrev pub invariant-loop-line : goal.invariant-loop-line
invariant-loop-line l = record {
  passed : first_reset (lines l.script) ≡ option_map (λ n. l.number + n) (first_reset (lines l.rest));
  room : l.number + length l.rest ≤ length l.script;
}

abbrev pub decreases-loop-line : goal.decreases-loop-line
decreases-loop-line l = length l.rest
