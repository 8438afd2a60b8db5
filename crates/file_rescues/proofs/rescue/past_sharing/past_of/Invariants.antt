-- Those of the sectors so far.
use Rattle.std.proofs.Common.{◌≡◌, ◌≤◌, length}
use Rattle.std.specs.List.{range_with_len}
use Rattle.std.specs.Prelude.{filter}
use Rattle.file_rescues.specs.rescue.Sharing.{is_so_often, numbers_of}
use Rattle.file_rescues.proofs.rescue.past_sharing.past_of.Given as goal

abbrev pub invariant-loop-past : goal.invariant-loop-past
invariant-loop-past l = record {
  items : l.numbers.items ≡ filter (is_so_often l.least (numbers_of l.files)) (range_with_len 683 l.past);
  few : length l.numbers.items ≤ l.past;
}
