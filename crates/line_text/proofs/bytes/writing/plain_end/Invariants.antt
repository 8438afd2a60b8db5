-- The bytes so far stand for themselves.
use Rattle.std.proofs.Common.{◌≡◌, ◌<◌, ◌≤◌, ℕ, slice_index, true}
use Rattle.line_text.specs.bytes.Texts.{is_plain}
use Rattle.line_text.proofs.bytes.writing.plain_end.Given as goal

abbrev pub invariant-loop-i : goal.invariant-loop-i
invariant-loop-i l = (j : ℕ) → l.start ≤ j → j < l.i → is_plain (slice_index l.bytes j) ≡ true
