-- From the end on all bytes are passed.
use Rattle.std.proofs.Common.{◌≡◌, ◌≤◌, ◌<◌, ℕ, get_or, length, true}
use Rattle.line_text.specs.columns.Columns.{is_one}
use Rattle.line_text.proofs.columns.reading.end_before.Given as goal

abbrev pub invariant-loop-end : goal.invariant-loop-end
invariant-loop-end l = (l.end ≤ length l.line)
    × ((k : ℕ) → l.end ≤ k → k < length l.line → is_one l.commas (get_or l.line k 0) ≡ true)

abbrev pub decreases-loop-end : goal.decreases-loop-end
decreases-loop-end l = l.end
