-- No byte so far is an LF but from the place on, and the place is past all bytes or has the first LF.
use Rattle.std.proofs.Common.{◌≡◌, ◌≢◌, ◌<◌, ◌≤◌, ℕ, get_or}
use Rattle.line_text.proofs.scripts.script.lf_among.Given as goal

abbrev pub invariant-loop-i : goal.invariant-loop-i
invariant-loop-i l = record {
  before : (k : ℕ) → k < l.i → k < l.at → get_or l.bytes k 0 ≢ 10;
  here : l.at < 64 → (l.at < l.i) × (get_or l.bytes l.at 0 ≡ 10);
  most : l.at ≤ 64;
}
