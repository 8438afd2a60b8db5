-- The sectors that are written for a new file. Our own.
use Rattle.std.specs.Prelude.{◌≡◌, ℕ, ◌+◌, ◌-◌, ◌*◌, ◌<◌, ◌≤◌, List, Contains, OnOk, Result, Some, drop, length, slice_get, take}
use Rattle.d64_image.specs.History.{Changes, History, OldOr, TellsFailure}
use Rattle.d64_image.specs.Images.{Image, Sector, put, sector}
use Rattle.d64_image.specs.declared.faults.DeviceFault.{DeviceFault}
use Rattle.d64_image.specs.declared.place.Place.{Place}
use Rattle.disk_layout.specs.Directory.{map_place}
use Rattle.disk_layout.specs.Layout.{Layout}
use Rattle.file_changes.specs.Puts.{HasPut, HoldsChain, IsPutting, chain_sector, sectors_for}
use Rattle.file_changes.specs.declared.file_type.FileType.{FileType}

-- n bytes need exactly so many sectors
pub record Fills (n count : ℕ) : Type 0 where
  pub low : 254 * (count - 1) < n
  pub high : n ≤ 254 * count

-- the map is the new one, and these sectors hold these bytes
pub record HasBlocks (new_map : Sector) (ps : List Place) (bytes : List ℕ) (c : Image) : Type 0 where
  pub map : sector c map_place ≡ new_map
  pub chain : HoldsChain c ps bytes

-- Sector `block` of the chain of these sectors was written, or the device failed.
pub record PutsBlock {D : Type 0} (S : History D) (old new : D) (ps : List Place) (block : ℕ) (bytes : List ℕ)
    (result : Result (Unit {0}) DeviceFault) : Type 0 where
  pub ok : (p : Place) → slice_get ps block ≡ Some p → OnOk result (S.image new ≡ put (S.image old) p
      (chain_sector (slice_get ps (block + 1)) (take 254 (drop (254 * block) bytes))))
  pub moments : (p : Place) → slice_get ps block ≡ Some p → Changes S old new 1 (OldOr (S.image old)
      (put (S.image old) p (chain_sector (slice_get ps (block + 1)) (take 254 (drop (254 * block) bytes)))))
  pub reads : S.reads new ≤ S.reads old
  pub failures : TellsFailure S old new result

-- the sectors that aren't among these are as they were
abbrev pub SameBeside : Image → List Place → Image → Type 0
SameBeside a ps c = (q : Place) → ¬ (Contains ps q) → sector c q ≡ sector a q

-- A file was put on the disk, or the device failed. The writes: the map, its sectors, and one or two of the directory.
pub record PutsFile {D : Type 0} (S : History D) (old new : D) (l : Layout) (name : List ℕ) (kind : FileType)
    (bytes : List ℕ) (result : Result (Unit {0}) DeviceFault) : Type 0 where
  pub ok : OnOk result (HasPut (S.image old) l name kind bytes (S.image new))
  pub moments : Changes S old new (sectors_for (length bytes) + 3) (IsPutting (S.image old) l name kind bytes)
