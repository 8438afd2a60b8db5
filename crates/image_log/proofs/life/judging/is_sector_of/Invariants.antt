use Rattle.std.proofs.Common.{◌≡◌, ◌<◌, ◌⊎◌, ℕ, slice_index}
use Rattle.image_log.proofs.life.judging.is_sector_of.Given as goal

abbrev pub invariant-loop-j : goal.invariant-loop-j
invariant-loop-j l = (k : ℕ) → k < l.j
    → (slice_index l.sector k ≡ slice_index l.base k) ⊎ (slice_index l.sector k ≡ slice_index l.shop k)
