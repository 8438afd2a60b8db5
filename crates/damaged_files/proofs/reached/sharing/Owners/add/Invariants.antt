-- The sectors so far were counted.
use Rattle.std.proofs.Common.{◌≡◌, ◌+◌, ℕ, min, take}
use Rattle.damaged_files.specs.reached.Owned.{owners_at}
use Rattle.damaged_files.specs.reached.Sharing.{count_at}
use Rattle.damaged_files.proofs.reached.sharing.Owners.add.Given as goal

abbrev pub invariant-loop-place : goal.invariant-loop-place
invariant-loop-place l =
    (i : ℕ) → min 2 (owners_at l.self i) ≡ min 2 (owners_at l.fn.self i + count_at i (take l.place-index l.places))
