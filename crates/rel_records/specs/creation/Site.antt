-- What a new file takes, as it is chosen before anything is written, and how its entry is written. Our own.
use Rattle.std.specs.Prelude.{ℕ, ◌≡◌, ◌≢◌, ◌≤◌, ◌+◌, ◌*◌, ◌++◌, ◌∷◌, [], Contains, List, MatchOption, None, OnOk, Option}
use Rattle.std.specs.Prelude.{Result, Some, drop, length, slice_get, take}
use Rattle.d64_image.specs.History.{HeldOnly, History, TellsFailure}
use Rattle.d64_image.specs.Images.{Image, Sector, sector}
use Rattle.d64_image.specs.declared.faults.DeviceFault.{DeviceFault}
use Rattle.d64_image.specs.declared.place.Place.{Place}
use Rattle.disk_layout.specs.Chain.{EachOnce}
use Rattle.disk_layout.specs.Directory.{map_place}
use Rattle.disk_layout.specs.Layout.{Layout, owners}
use Rattle.disk_layout.specs.Map.{IsFirstOn, IsMapOf}
use Rattle.rel_records.specs.Puts.{IsPutSoFar, put_each}
use Rattle.rel_records.specs.Usable.{IsUsableLayout}
use Rattle.rel_records.specs.creation.Made.{HasFileMore}
use Rattle.rel_records.specs.creation.NewFile.{IsEntered, IsLinkedTo, IsNewDirectory}
use Rattle.rel_records.specs.creation.Room.{IsFirstRoom, IsFullDirectory}
use Rattle.rel_records.specs.declared.creation.directory_room.Room.{Room}
use Rattle.rel_records.specs.declared.creation.site.Site.{Site}
use Rattle.rel_records.specs.declared.rel_file.RelFile.{RelFile}
use Rattle.rel_records.specs.growth.Growth.{full}

-- the directory's room for an entry: its first free slot, or none; and the sector that is written last for it
pub record IsRoomOf (img : Image) (l : Layout) (r : Room) : Type 0 where
  pub bytes : r.bytes ≡ sector img r.place
  pub slot : MatchOption r.number (IsFullDirectory img l.directory r.place) (IsFirstRoom img l.directory r.place)
  pub place : slice_get l.directory r.before ≡ Some r.place

-- these sectors were free, each is there once and not on track 18, and the map has them taken
pub record TakesSectors (old new : Sector) (ps : List Place) : Type 0 where
  pub once : EachOnce ps
  pub off : (p : Place) → Contains ps p → p.track ≢ 18
  pub unowned : (owned : List Place) → IsMapOf old owned → (p : Place) → Contains ps p → ¬ (Contains owned p)
  pub owned : (owned : List Place) → IsMapOf old owned → IsMapOf new (ps ++ owned)
  pub header : (take 4 new ≡ take 4 old) × (drop 144 new ≡ drop 144 old)

-- the image can be used; the site has this number of its sectors, which nobody owned, and a map with its map's header
pub record IsTaking (img : Image) (l : Layout) (n : ℕ) (s : Site) : Type 0 where
  pub usable : IsUsableLayout img l
  pub count : length s.blocks.items ≡ n
  pub once : EachOnce s.blocks.items
  pub unowned : (p : Place) → Contains s.blocks.items p → ¬ (Contains (map_place ∷ owners l) p)
  pub header : (take 4 s.map.bytes ≡ take 4 (sector img map_place))
      × (drop 144 s.map.bytes ≡ drop 144 (sector img map_place))
  pub bytes : s.bytes ≡ sector img s.place

-- these sectors are taken, and all that were; the entry goes into the first free slot
pub record IsSlotSite (img : Image) (l : Layout) (count : ℕ) (s : Site) : Type 0 where
  pub taking : IsTaking img l count s
  pub map : (owned : List Place) → IsMapOf (sector img map_place) owned → IsMapOf s.map.bytes (s.blocks.items ++ owned)
  pub room : IsFirstRoom img l.directory s.place s.number
  pub entry : s.entry ≡ 8 * length room.front + s.number

-- one more is taken, the lowest free sector of track 18: it follows the directory's last, and gets the entry
pub record IsSectorSite (img : Image) (l : Layout) (count : ℕ) (s : Site) (fresh : Place) : Type 0 where
  pub taking : IsTaking img l count s
  pub map : (owned : List Place) → IsMapOf (sector img map_place) owned
      → IsMapOf s.map.bytes (fresh ∷ s.blocks.items ++ owned)
  pub full : IsFullDirectory img l.directory s.place
  pub lowest : IsFirstOn (sector img map_place) 18 fresh
  pub no_fresh : ¬ (Contains (map_place ∷ owners l) fresh)
  pub apart : ¬ (Contains s.blocks.items fresh)
  pub number : s.number ≡ 0
  pub entry : s.entry ≡ 8 * length l.directory

-- the site is right for a new file of so many sectors: with a free slot, or with a new directory sector
abbrev pub IsSite : Image → Layout → ℕ → Site → Type 0
IsSite img l count s = MatchOption s.fresh (IsSlotSite img l count s) (IsSectorSite img l count s)

-- the directory sector that the entry goes into
abbrev pub sector_or : Place → Option Place → Place
sector_or p None = p
sector_or p (Some fresh) = fresh

-- the directory sector of the site that the entry goes into
abbrev pub sector_of : Site → Place
sector_of s = sector_or s.place s.fresh

-- what is put for an entry: the directory sector with it in its free slot; without one, a new sector with the entry
-- alone, and then the directory's last with a link to it
abbrev pub ArePutsOf : Site → List ℕ → Option Place → List (Place × Sector) → Type 0
ArePutsOf s entry None puts = (bytes : Sector) × IsEntered s.bytes bytes s.number entry × (puts ≡ (s.place, bytes) ∷ [])
ArePutsOf s entry (Some fresh) puts = (first last : Sector) × IsNewDirectory first entry × IsLinkedTo s.bytes last fresh
    × (puts ≡ (fresh, first) ∷ (s.place, last) ∷ [])

-- An entry was put where the site has it, each sector by one write; or the device failed, and the first of them were.
pub record PutsEntry {D : Type 0} (S : History D) (old new : D) (s : Site) (entry : List ℕ)
    (result : Result (Unit {0}) DeviceFault) : Type 0 where
  pub puts : List (Place × Sector)
  pub are : ArePutsOf s entry s.fresh puts
  pub ok : OnOk result (S.image new ≡ put_each puts (S.image old))
  pub held : HeldOnly S old new (IsPutSoFar puts (S.image old))
  pub writes : S.writes new ≤ S.writes old + length puts
  pub reads : S.reads new ≤ S.reads old
  pub failures : TellsFailure S old new result

-- c has one file more, with its entry as it was chosen
pub record HasFileAt (a : Image) (l : Layout) (name : List ℕ) (L : ℕ) (s : Site) (c : Image) : Type 0 where
  pub more : HasFileMore a l name L c
  pub there : slice_get more.layout.files s.entry ≡ Some more.file
  pub sector : more.file.slot.sector ≡ sector_of s
  pub number : more.file.slot.number ≡ s.number
  pub sides : more.file.sides ≡ drop 1 s.blocks.items
  pub last : more.file.last ≡ full L 1 * L + 1

-- v is what is kept in memory of that file
pub record IsFileAt (L : ℕ) (s : Site) (v : RelFile) : Type 0 where
  pub entry : v.entry ≡ s.entry
  pub sector : v.sector ≡ sector_of s
  pub number : v.number ≡ s.number
  pub size : v.size ≡ L
  pub sides : v.sides.items ≡ drop 1 s.blocks.items
  pub blocks : v.blocks ≡ 1
  pub last : v.last ≡ full L 1 * L + 1
