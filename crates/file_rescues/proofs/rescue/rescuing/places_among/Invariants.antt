-- The places of those of the sectors so far that tracks 1 to 35 have.
use Rattle.std.proofs.Common.{◌≡◌, map, take}
use Rattle.std.specs.Prelude.{filter}
use Rattle.d64_image.specs.Places.{index_of}
use Rattle.file_rescues.specs.rescue.Rescues.{is_on_disk}
use Rattle.file_rescues.proofs.rescue.rescuing.places_among.Given as goal

abbrev pub invariant-loop-number : goal.invariant-loop-number
invariant-loop-number l = map index_of l.places.items ≡ filter is_on_disk (take l.number-index l.chain)
