-- All side sectors as the bytes list them, as far as they were appended.
use Rattle.std.proofs.Common.{◌≡◌, ◌≤◌, ◌++◌, List, length, take}
use Rattle.d64_image.specs.declared.place.Place.{Place}
use Rattle.layout_check.specs.Sides.{NamesEach}
use Rattle.disk_reports.proofs.sides.add_listed.Given as goal

abbrev pub invariant-loop-number : goal.invariant-loop-number
invariant-loop-number l = record {
  many : length l.all.items ≡ l.number;
  low : l.number ≤ l.count;
  grown : (more : List Place) × (l.all.items ≡ l.fn.all.items ++ more);
  only : (more : List Place) → length (l.fn.all.items ++ more) ≡ l.count
      → NamesEach l.bytes 4 (l.fn.all.items ++ more) → l.all.items ≡ take l.number (l.fn.all.items ++ more);
}
