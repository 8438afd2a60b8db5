-- What the table tells stays.
use Rattle.std.proofs.Common.{◌≡◌, ◌-◌, ◌+◌, ℕ, length, slice_index}
use Rattle.disk_changes.proofs.lines.last_lines.LastLines.reach.Given as goal

abbrev pub invariant-loop-self : goal.invariant-loop-self
invariant-loop-self l = (n : ℕ) → slice_index l.self.places.items n ≡ slice_index l.initial.self.places.items n

abbrev pub decreases-loop-self : goal.decreases-loop-self
decreases-loop-self l = l.number + 1 - length l.self.places.items
