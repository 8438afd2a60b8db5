use Rattle.std.proofs.Common.{◌≡◌, ◌<◌, ◌⊎◌, ℕ}
use Rattle.image_log.specs.life.Mixes.{byte_of}
use Rattle.image_log.proofs.life.judging.is_mix_of.Given as goal

abbrev pub invariant-loop-i : goal.invariant-loop-i
invariant-loop-i l = (k j : ℕ) → k < l.i → j < 256
    → (byte_of l.image k j ≡ byte_of l.base k j) ⊎ (byte_of l.image k j ≡ byte_of l.shop k j)
