-- The image of a log alone. Our own.
use Rattle.std.specs.Prelude.{ℕ, zero, suc, ◌+◌, ◌≡◌, ◌≤◌, ◌<◌, if◌then◌else◌, List}
use Rattle.d64_image.specs.Images.{Image}
use Rattle.image_log.specs.Blocks.{IsBlank, block_at, is_last}
use Rattle.image_log.specs.Recovered.{base_end, commits_end, recovered}
use Rattle.image_log.specs.declared.salvaging.Salvaged.{Salvaged}

-- how many of the first n blocks end a commit
unfoldable pub commits_in : (ℕ → List ℕ) → ℕ → ℕ
commits_in blocks zero = 0
commits_in blocks (suc n) = commits_in blocks n + (if is_last (blocks n) then 1 else 0)

-- The image of the whole commits was taken, and so many blocks after them were left, up to the last one that isn't blank.
pub record IsSalvaged (f : List ℕ) (shop : Image) (salvaged : Salvaged) : Type 0 where
  pub based : 0 < base_end f
  pub image : shop ≡ recovered f
  pub commits : salvaged.commits ≡ commits_in (block_at f) (commits_end f)
  pub after : (q : ℕ) → commits_end f + salvaged.left ≤ q → q < 1024 → IsBlank (block_at f q)
  pub last : (q : ℕ) → commits_end f ≤ q → suc q ≡ commits_end f + salvaged.left → IsBlank (block_at f q) → ⊥
