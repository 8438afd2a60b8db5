use Rattle.std.proofs.Common.{◌≡◌, ◌++◌, List, length, take}
use Rattle.d64_image.specs.declared.place.Place.{Place}
use Rattle.rel_records.specs.reading.Sides.{NamesEach}
use Rattle.rel_records.proofs.growth.gathering.list_blocks.Given as goal

abbrev pub invariant-loop-number : goal.invariant-loop-number
invariant-loop-number l = (qs : List Place) → length qs ≡ l.count → NamesEach l.bytes 16 qs
    → l.blocks.items ≡ l.initial.blocks.items ++ take l.number qs
