-- Images that are written over another one, byte by byte. Our own.
use Rattle.std.specs.Prelude.{ℕ, ◌<◌, ◌≡◌, ◌⊎◌, List, [], length, slice_index, slice_index_or}
use Rattle.d64_image.specs.Images.{Image}

-- byte j of the sector with index i
abbrev pub byte_of : Image → ℕ → ℕ → ℕ
byte_of image i j = slice_index (slice_index_or image i []) j

-- Each byte of an image is as one of two others has it. This is what is left where the one is written over the other, and
-- that is cut off.
pub record IsMixOf (base shop image : Image) : Type 0 where
  pub each : (i j : ℕ) → i < 683 → j < 256
      → (byte_of image i j ≡ byte_of base i j) ⊎ (byte_of image i j ≡ byte_of shop i j)

-- What may be left of a sector that is written over another one of its size: each of its bytes is the old one, or the new one.
pub record IsTorn (old new torn : List ℕ) : Type 0 where
  pub size : length old ≡ length new → length torn ≡ length old
  pub each : (j : ℕ) → (slice_index torn j ≡ slice_index old j) ⊎ (slice_index torn j ≡ slice_index new j)
