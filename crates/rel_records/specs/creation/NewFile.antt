-- A new file's sectors, and its entry. Our own.
use Rattle.std.specs.Prelude.{ℕ, ◌≡◌, ◌≢◌, ◌⊎◌, ◌+◌, ◌*◌, ◌<◌, ◌≤◌, ◌∷◌, [], List, Contains, length, slice_index, slice_range}
use Rattle.d64_image.specs.Images.{Image, Sector, sector}
use Rattle.d64_image.specs.declared.place.Place.{Place}
use Rattle.disk_layout.specs.Chain.{Names}
use Rattle.disk_layout.specs.Directory.{map_place}
use Rattle.disk_layout.specs.Side.{side_sector}
use Rattle.rel_records.specs.growth.Next.{IsFresh}

-- the map is as it was or the new one, and of the other sectors only these may differ
pub record ChangesOnly (old : Image) (new_map : Sector) (ps : List Place) (c : Image) : Type 0 where
  pub map : (sector c map_place ≡ sector old map_place) ⊎ (sector c map_place ≡ new_map)
  pub rest : (q : Place) → q ≢ map_place → ¬ (Contains ps q) → sector c q ≡ sector old q

-- two sectors for a file, neither of which is the map's
pub record AreApart (p q : Place) : Type 0 where
  pub block : p ≢ map_place
  pub side : q ≢ map_place
  pub apart : p ≢ q

-- the map is the new one, and these are the data block and the side sector of a file of one block of empty records
pub record HasNewSectors (new_map : Sector) (block side : Place) (L : ℕ) (c : Image) : Type 0 where
  pub map : sector c map_place ≡ new_map
  pub fresh : IsFresh 0 L (sector c block)
  pub links : sector c side ≡ side_sector 0 (block ∷ []) (side ∷ []) L

-- the bytes of a directory sector with the entry in slot n; the first slot keeps the sector's link, the others begin
-- with zeros
pub record IsEntered (old new : Sector) (n : ℕ) (entry : List ℕ) : Type 0 where
  pub old_long : length old ≡ 256
  pub long : length new ≡ 256
  pub here : slice_range new (32 * n + 2) (32 * n + 32) ≡ entry
  pub rest : (i : ℕ) → (i < 32 * n) ⊎ (32 * n + 32 ≤ i) → slice_index new i ≡ slice_index old i
  pub link : (i : ℕ) → i < 2 → slice_index new i ≡ slice_index old i
  pub zeros : 0 < n → (slice_index new (32 * n) ≡ 0) × (slice_index new (32 * n + 1) ≡ 0)

-- a new directory sector, the last one, whose second byte is 255: the entry in its first slot, zeros in the others
pub record IsNewDirectory (bytes : Sector) (entry : List ℕ) : Type 0 where
  pub ends : slice_index bytes 0 ≡ 0
  pub last : slice_index bytes 1 ≡ 255
  pub entered : (old : Sector) × IsEntered old bytes 0 entry
  pub free : (i : ℕ) → 32 ≤ i → i < 256 → slice_index bytes i ≡ 0

-- the bytes of a directory sector that links to p
pub record IsLinkedTo (old new : Sector) (p : Place) : Type 0 where
  pub old_long : length old ≡ 256
  pub long : length new ≡ 256
  pub link : Names new 0 p
  pub rest : (i : ℕ) → 2 ≤ i → slice_index new i ≡ slice_index old i
