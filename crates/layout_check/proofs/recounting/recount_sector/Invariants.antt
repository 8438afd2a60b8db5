-- The slots so far are right, the later ones as they were.
use Rattle.std.proofs.Common.{ℕ, ◌≡◌, ◌<◌, ◌≤◌}
use Rattle.d64_image.specs.Images.{Image, sector}
use Rattle.disk_layout.specs.Directory.{slot_in}
use Rattle.layout_check.proofs.lemmas.repairing.RightSlots.{AreRightBelow}
use Rattle.layout_check.specs.Owners.{NumbersEach}
use Rattle.layout_check.specs.Recounted.{GetsCounts, IsDirectorySector}
use Rattle.layout_check.proofs.recounting.recount_sector.Given as goal

abbrev pub invariant-loop-number : goal.invariant-loop-number
invariant-loop-number l = record {
  few : l.number ≤ 8;
  later : (k : ℕ) → l.number ≤ k → k < 8 → slot_in l.place l.bytes k ≡ slot_in l.place l.fn.bytes k;
  counted : (img : Image) → IsDirectorySector img l.place → NumbersEach l.owners img
      → l.fn.bytes ≡ sector img l.place → GetsCounts (AreRightBelow img l.place l.number) l.fn.bytes l.bytes;
}
