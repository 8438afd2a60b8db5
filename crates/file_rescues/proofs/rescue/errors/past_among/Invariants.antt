-- Those of the sectors so far.
use Rattle.std.proofs.Common.{◌≡◌, take}
use Rattle.std.specs.Prelude.{filter}
use Rattle.file_rescues.specs.rescue.Errors.{is_misread_past}
use Rattle.file_rescues.proofs.rescue.errors.past_among.Given as goal

abbrev pub invariant-loop-number : goal.invariant-loop-number
invariant-loop-number l = l.numbers.items ≡ filter (is_misread_past l.image) (take l.number-index l.sectors)
