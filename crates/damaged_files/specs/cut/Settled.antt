-- A loss that is settled: a file that a lost sector cut short ends where it ends now, and its entry counts what is there.
-- Chains and block counts are those of the 1541 User's Guide; how a loss is settled is our own.
use Rattle.std.specs.Prelude.{◌≡◌, ℕ, ◌+◌, ◌*◌, ◌%◌, ◌/◌, ◌-◌, ◌∷◌, [], ◌||◌, Contains, IsTrue, List, Some, length, replicate, slice_get}
use Rattle.std.specs.List.{AllByRecursion}
use Rattle.d64_image.specs.Images.{Image, put, sector}
use Rattle.d64_image.specs.Offsets.{overwritten}
use Rattle.d64_image.specs.declared.place.Place.{Place}
use Rattle.disk_layout.specs.Chain.{named_at}
use Rattle.disk_layout.specs.Layout.{File, IsLayout, Layout, is_rel}
use Rattle.disk_layout.specs.Listed.{is_plain}
use Rattle.disk_layout.specs.declared.slot.Slot.{Slot}
use Rattle.damaged_files.specs.cut.Cut.{CountsMore, info_blocks}

-- the image whose sector at p is the end of a chain, and no byte of it is the file's: it begins with 00 01
abbrev pub with_end : Image → Place → Image
with_end img p = put img p (overwritten (sector img p) 0 (0 ∷ 1 ∷ []))

-- the image with ends in these sectors
abbrev pub with_ends : Image → List Place → Image
with_ends img [] = img
with_ends img (p ∷ ps) = with_end (with_ends img ps) p

-- the image with n as the block count of an entry, low byte first
abbrev pub with_count : Image → Slot → ℕ → Image
with_count img s n =
    put img s.sector (overwritten (sector img s.sector) (32 * s.number + 30) ((n % 256) ∷ (n / 256) ∷ []))

-- the image with these block counts in these entries
abbrev pub with_counts : Image → List (Slot × ℕ) → Image
with_counts img [] = img
with_counts img (e ∷ es) = with_count (with_counts img es) e.0 e.1

-- the chain of a relative file, or of a SEQ, PRG or USR, ends in this sector, which is all zeros
pub record IsLostEnd (img : Image) (f : File) (p : Place) : Type 0 where
  pub kind : IsTrue (is_rel f.slot || is_plain f.slot)
  pub last : slice_get f.blocks (length f.blocks - 1) ≡ Some p
  pub zeros : sector img p ≡ replicate 256 0

-- a file of the layout ends so
abbrev pub IsLostEndIn : Image → Layout → Place → Type 0
IsLostEndIn img l p = (f : File) × Contains l.files f × IsLostEnd img f p

-- the entry is that of a file of the layout, and counts more blocks than its chain has, which are n with an info block
abbrev pub IsCountIn : Layout → (Slot × ℕ) → Type 0
IsCountIn l e = (f : File) × Contains l.files f × (f.slot ≡ e.0) × CountsMore e.0 (length f.blocks)
    × (e.1 ≡ length f.blocks + info_blocks (named_at e.0.bytes 21))

-- The second image is the first, a sound one, with an end in last blocks that are all zeros, and with the counts of their chains
-- in entries that counted more.
pub record IsSettled (old new : Image) : Type 0 where
  pub layout : Layout
  pub sound : IsLayout old layout
  pub ends : List Place
  pub each_end : AllByRecursion (IsLostEndIn old layout) ends
  pub counts : List (Slot × ℕ)
  pub each_count : AllByRecursion (IsCountIn layout) counts
  pub after : new ≡ with_counts (with_ends old ends) counts
