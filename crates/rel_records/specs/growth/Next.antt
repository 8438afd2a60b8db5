-- A file's next data block, as it is made in memory before anything is written. Our own.
use Rattle.std.specs.Prelude.{ℕ, ◌≡◌, ◌≢◌, ◌⊎◌, ◌+◌, ◌-◌, ◌*◌, ◌%◌, ◌<◌, ◌≤◌, ◌++◌, ◌∷◌, [], List, Contains, drop}
use Rattle.std.specs.Prelude.{length, slice_index, take}
use Rattle.d64_image.specs.Images.{Sector}
use Rattle.d64_image.specs.declared.place.Place.{Place}
use Rattle.disk_layout.specs.Chain.{Names}
use Rattle.disk_layout.specs.Directory.{slot_in}
use Rattle.disk_layout.specs.Entries.{IsRecounted}
use Rattle.disk_layout.specs.Layout.{count_field}
use Rattle.disk_layout.specs.Map.{IsMapOf}
use Rattle.disk_layout.specs.Records.{filler}
use Rattle.disk_layout.specs.View.{blocks_free}
use Rattle.rel_records.specs.declared.growth.step_parts.Growing.{Growing}
use Rattle.rel_records.specs.growth.Growth.{full}
use Rattle.rel_records.specs.growth.Steps.{taken_next}

-- a sector that nobody owned is taken for the next block, and the side sectors stay
pub record TakesBlock (p q : Growing) (fresh : Place) : Type 0 where
  pub within : length p.blocks.items % 120 ≢ 0
  pub sides : q.sides.items ≡ p.sides.items
  pub owned : (owned : List Place) → IsMapOf p.map.bytes owned → IsMapOf q.map.bytes (fresh ∷ owned)

-- if they are full, a second sector is taken for the next side sector
pub record TakesSide (p q : Growing) (fresh : Place) : Type 0 where
  pub full : length p.blocks.items % 120 ≡ 0
  pub side : Place
  pub sides : q.sides.items ≡ p.sides.items ++ side ∷ []
  pub unowned : (owned : List Place) → IsMapOf p.map.bytes owned → ¬ (Contains (fresh ∷ owned) side)
  pub owned : (owned : List Place) → IsMapOf p.map.bytes owned → IsMapOf q.map.bytes (side ∷ fresh ∷ owned)

-- the map and the lists of places have what the next block takes; everything else is as it was
pub record TakesPlaces (p q : Growing) (fresh : Place) : Type 0 where
  pub blocks : q.blocks.items ≡ p.blocks.items ++ fresh ∷ []
  pub unowned : (owned : List Place) → IsMapOf p.map.bytes owned → ¬ (Contains owned fresh)
  pub taken : TakesBlock p q fresh ⊎ TakesSide p q fresh
  pub header : (take 4 q.map.bytes ≡ take 4 p.map.bytes) × (drop 144 q.map.bytes ≡ drop 144 p.map.bytes)
  pub free : blocks_free q.map.bytes + taken_next (length p.blocks.items) ≡ blocks_free p.map.bytes
  pub sector : q.sector ≡ p.sector
  pub number : q.number ≡ p.number
  pub size : q.size ≡ p.size

-- the bytes of the last block of a file with n blocks before it and all whole records of L bytes that fit
pub record IsFresh (n L : ℕ) (bytes : Sector) : Type 0 where
  pub ends : slice_index bytes 0 ≡ 0
  pub index : slice_index bytes 1 + 254 * n ≡ full L (n + 1) * L + 1
  pub filled : (j : ℕ) → j < 254 → slice_index bytes (2 + j) ≡ filler L (full L (n + 1)) (254 * n + j)

-- the bytes of the last of n blocks link to a fresh one after it, and begin the record that crosses into it; the whole
-- records that fitted stay
pub record IsLinked (n L : ℕ) (fresh : Place) (old new : Sector) : Type 0 where
  pub link : Names new 0 fresh
  pub kept : (j : ℕ) → j < 254 → 254 * (n - 1) + j < full L n * L → slice_index new (2 + j) ≡ slice_index old (2 + j)
  pub tail : (j : ℕ) → j < 254 → full L n * L ≤ 254 * (n - 1) + j
      → slice_index new (2 + j) ≡ filler L (full L (n + 1)) (254 * (n - 1) + j)

-- all that the next block needs is made: the places, its bytes, the old last block's, and the directory sector's
pub record IsLaidOut (p q : Growing) (fresh : Place) (block : Sector) : Type 0 where
  pub places : TakesPlaces p q fresh
  pub made : IsFresh (length p.blocks.items) p.size block
  pub last : IsLinked (length p.blocks.items) p.size fresh p.last q.last
  pub recounted : IsRecounted p.directory q.directory p.number
  pub count : (d : Place) → count_field (slot_in d q.directory p.number) ≡ length q.blocks.items + length q.sides.items
