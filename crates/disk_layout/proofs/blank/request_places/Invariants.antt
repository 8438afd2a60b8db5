-- The places so far.
use Rattle.disk_layout.specs.Blank.{AreRequestPlaces}
use Rattle.disk_layout.proofs.blank.request_places.Given as goal

abbrev pub invariant-loop-number : goal.invariant-loop-number
invariant-loop-number l = AreRequestPlaces l.places.items l.number
