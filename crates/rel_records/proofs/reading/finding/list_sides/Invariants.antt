use Rattle.std.proofs.Common.{◌≡◌, List, length, take}
use Rattle.d64_image.specs.declared.place.Place.{Place}
use Rattle.rel_records.specs.reading.Sides.{NamesEach}
use Rattle.rel_records.proofs.reading.finding.list_sides.Given as goal

abbrev pub invariant-loop-number : goal.invariant-loop-number
invariant-loop-number l = record {
  listed : (qs : List Place) → length qs ≡ l.count → NamesEach l.bytes 4 qs → l.sides.items ≡ take l.number qs;
}
