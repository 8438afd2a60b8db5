-- What a run over a fuse says of the disk beneath it.
use Rattle.std.proofs.Common.{ℕ, ◌≡◌, ◌<◌, ◌⊎◌, ⊎_elim, arith}
use Rattle.d64_image.specs.declared.fuse.Fuse.{Fuse}
use Rattle.d64_image.specs.Images.{Image}
use Rattle.d64_image.specs.History.{History, HeldOnly, Changes, Failed}
use Rattle.d64_image.specs.Fuses.{fuse, fuse_disk, fuse_left, fuse_failures}

module _ {D : Type 0} (h : History D) where
  pub held_beneath : (a b : Fuse D) (P : Image → Type 0) → HeldOnly (fuse h) a b P
      → HeldOnly h (fuse_disk a) (fuse_disk b) P
  held_beneath a b P x = record { reached = x.reached.beneath; later = x.later; each = x.each; before = x.before }

  pub changes_beneath : (a b : Fuse D) (n : ℕ) (P : Image → Type 0) → Changes (fuse h) a b n P
      → Changes h (fuse_disk a) (fuse_disk b) n P
  changes_beneath a b n P x = record {
    held = held_beneath a b P x.held;
    writes = omega (arith, x.writes, x.held.reached.writes);
  }

  -- where the fuse failed, it has blown, or the disk beneath it failed
  pub cause_beneath : (a b : Fuse D) (P : Image → Type 0) → HeldOnly (fuse h) a b P → fuse_failures a < (fuse h).last
      → Failed (fuse h) a b
      → (fuse_left b ≡ 0) ⊎ Failed h (fuse_disk a) (fuse_disk b)
  cause_beneath a b P x fresh failed = ⊎_elim
      (λ (same : fuse_failures b ≡ fuse_failures a). absurd
      (omega (arith, same, fresh, failed.rose (omega (arith, same, fresh)))))
      (λ cause. cause)
      x.reached.cause
