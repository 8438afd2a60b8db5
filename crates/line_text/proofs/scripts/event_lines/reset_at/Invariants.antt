-- The numbers so far are read.
use Rattle.std.proofs.Common.{◌≡◌, ◌≤◌, length}
use Rattle.std.specs.Prelude.{option_map}
use Rattle.line_text.specs.scripts.Resets.{fields_left, reset_of}
use Rattle.line_text.proofs.lemmas.scripts.Resets.{with_left, left_over}
use Rattle.line_text.proofs.scripts.event_lines.reset_at.Given as goal

abbrev pub invariant-loop-rest : goal.invariant-loop-rest
invariant-loop-rest l = record {
  read : reset_of l.bytes ≡ with_left l.message l.after l.recoveries.items
      (fields_left (option_map (λ r. r.now) l.rest));
  few : length l.recoveries.items ≤ 8;
}

abbrev pub decreases-loop-rest : goal.decreases-loop-rest
decreases-loop-rest l = left_over (option_map (λ r. r.now) l.rest)
