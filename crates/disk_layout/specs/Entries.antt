-- Entries: a new one, and entries whose block counts are left out. The latter are our own, for what growth leaves.
use Rattle.std.specs.Prelude.{ℕ, ◌⊎◌, ◌<◌, ◌≤◌, ◌+◌, ◌*◌, length, slice_index, ◌≡◌, List, take, map, ◌++◌, ◌∷◌}
use Rattle.std.specs.Prelude.{replicate}
use Rattle.byteorder.specs.Endian.{little_bytes}
use Rattle.d64_image.specs.Images.{Sector}
use Rattle.d64_image.specs.declared.place.Place.{Place}
use Rattle.disk_layout.specs.Rest.{slot_name}
use Rattle.disk_layout.specs.Side.{place_bytes}
use Rattle.disk_layout.specs.declared.slot.Slot.{Slot}

-- bytes 2 to 31 of the slot of a relative file (1541 User's Guide, directory format): type, first data block, name,
-- first side sector, record length, six bytes 0, block count. 84 11 00, `STOCK` and eleven A0, 11 01 12, six 00, 02 00
unfoldable pub rel_entry : List ℕ → Place → Place → ℕ → ℕ → List ℕ
rel_entry name first side length' blocks =
    (132 ∷ place_bytes first)
    ++ (slot_name name ++ (place_bytes side ++ ((length' ∷ replicate 6 0) ++ little_bytes 2 blocks)))

-- the slot without its block count, bytes 30-31
abbrev pub uncounted : Slot → Slot
uncounted s = record { sector = s.sector; number = s.number; bytes = take 30 s.bytes }

-- the same entries, block counts aside
abbrev pub SameEntries : List Slot → List Slot → Type 0
SameEntries es fs = map uncounted es ≡ map uncounted fs

-- the bytes of a directory sector change only in the block count of slot n
pub record IsRecounted (old new : Sector) (n : ℕ) : Type 0 where
  pub old_long : length old ≡ 256
  pub long : length new ≡ 256
  pub same : (i : ℕ) → (i < 32 * n + 30) ⊎ (32 * n + 32 ≤ i) → slice_index new i ≡ slice_index old i

-- the bytes of a directory sector change only in the block counts of its slots
pub record IsRecountedAll (old new : Sector) : Type 0 where
  pub old_long : length old ≡ 256
  pub long : length new ≡ 256
  pub same : (n i : ℕ) → n < 8 → i < 30 → slice_index new (32 * n + i) ≡ slice_index old (32 * n + i)
