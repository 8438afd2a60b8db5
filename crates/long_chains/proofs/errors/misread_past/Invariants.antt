-- Those of the sectors so far.
use Rattle.std.proofs.Common.{◌≡◌, ◌≤◌, length}
use Rattle.std.specs.List.{range_with_len}
use Rattle.std.specs.Prelude.{filter}
use Rattle.long_chains.specs.Sectors.{is_misread}
use Rattle.long_chains.proofs.errors.misread_past.Given as goal

abbrev pub invariant-loop-past : goal.invariant-loop-past
invariant-loop-past l = record {
  items : l.numbers.items ≡ filter (is_misread l.image) (range_with_len 683 l.past);
  few : length l.numbers.items ≤ l.past;
}
