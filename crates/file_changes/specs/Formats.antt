-- An empty disk as it is made (1541 User's Guide: NEW, block availability map, directory format). Which sectors are
-- written is our own.
use Rattle.std.specs.Prelude.{◌≡◌, ◌≢◌, ℕ, ◌+◌, ◌≤◌, ◌++◌, [], ◌∷◌, List, OnOk, Result, replicate, slice_index}
use Rattle.d64_image.specs.History.{Changes, History, TellsFailure}
use Rattle.d64_image.specs.Images.{Image, Sector, sector}
use Rattle.d64_image.specs.declared.faults.DeviceFault.{DeviceFault}
use Rattle.d64_image.specs.declared.place.Place.{Place}
use Rattle.disk_layout.specs.Blank.{names_of}
use Rattle.disk_layout.specs.Clean.{IsCleanLayout}
use Rattle.disk_layout.specs.Directory.{directory_start, map_place}
use Rattle.disk_layout.specs.Layout.{Layout}
use Rattle.disk_layout.specs.Rest.{header_of}
use Rattle.layout_check.specs.Made.{HasNoSpare}

-- a directory of one sector, and no file
abbrev pub empty_layout : Layout
empty_layout = record { directory = directory_start ∷ []; files = [] }

-- that sector: the last of its chain, with eight free slots
abbrev pub empty_directory : Sector
empty_directory = 0 ∷ 255 ∷ replicate 254 0

-- 18/0 outside the map: the directory's first sector, `A`, and the names: 12 01 41 00, then `GAMES` and eleven A0, A0 A0,
-- the id, A0, `2A`, four A0 and zeros
abbrev pub empty_header : List ℕ → List ℕ → List ℕ
empty_header name id = (18 ∷ 1 ∷ 65 ∷ 0 ∷ []) ++ names_of name id

-- every sector but the map's and the directory's is as it was
abbrev pub SameOutside : Image → Image → Type 0
SameOutside a c = (p : Place) → p ≢ map_place → p ≢ directory_start → sector c p ≡ sector a p

-- the disk has no file, and this name and id
pub record HasNothing (name id : List ℕ) (c : Image) : Type 0 where
  -- so the map calls all sectors free but these two
  pub clean : IsCleanLayout c empty_layout
  pub header : header_of c ≡ empty_header name id
  pub spare : (track : ℕ) → 1 ≤ track → track ≤ 35 → HasNoSpare (sector c map_place) track
  pub directory : sector c directory_start ≡ empty_directory

-- c is such a disk, made on a disk that held a
pub record IsEmptyDisk (a : Image) (name id : List ℕ) (c : Image) : Type 0 where
  pub nothing : HasNothing name id c
  pub rest : SameOutside a c

-- c is such a disk, and its other sectors hold zeros
pub record IsNewDisk (name id : List ℕ) (c : Image) : Type 0 where
  pub nothing : HasNothing name id c
  pub zeros : (p : Place) (i : ℕ) → p ≢ map_place → p ≢ directory_start → slice_index (sector c p) i ≡ 0

-- An empty disk was made, or the device failed.
pub record Formats {D : Type 0} (S : History D) (old new : D) (name id : List ℕ)
    (result : Result (Unit {0}) DeviceFault) : Type 0 where
  pub ok : OnOk result (IsEmptyDisk (S.image old) name id (S.image new))
  pub moments : Changes S old new 3 (SameOutside (S.image old))
  -- those of a repair
  pub reads : S.reads new ≤ S.reads old + 4179
  pub failures : TellsFailure S old new result
