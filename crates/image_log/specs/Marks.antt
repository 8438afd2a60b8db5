-- Sectors that are marked as touched. Our own.
use Rattle.std.specs.Prelude.{ℕ, ◌≡◌, ◌<◌, Bool, List, [], false, slice_index_or}
use Rattle.d64_image.specs.Images.{Image}

-- a sector that isn't marked as touched is the same in both images
abbrev pub Covers : List Bool → Image → Image → Type 0
Covers touched before now = (i : ℕ) → i < 683 → slice_index_or touched i false ≡ false
    → slice_index_or before i [] ≡ slice_index_or now i []

-- no sector is marked
abbrev pub NoneTouched : List Bool → Type 0
NoneTouched touched = (i : ℕ) → slice_index_or touched i false ≡ false
