-- None of the sectors so far differs.
use Rattle.std.proofs.Common.{◌≡◌, false, take}
use Rattle.std.specs.List.{list_any}
use Rattle.disk_pictures.specs.Comparisons.{differs}
use Rattle.disk_pictures.proofs.comparison.differences.are_changed.Given as goal

abbrev pub invariant-loop-place : goal.invariant-loop-place
invariant-loop-place l = list_any (differs l.before.sectors.now l.after.sectors.now) (take l.place-index l.places) ≡ false
