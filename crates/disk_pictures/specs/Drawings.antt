-- What is drawn of a disk, sound or damaged: its directory, and of each entry what its links come to. Our own.
use Rattle.std.specs.Prelude.{◌≡◌, ◌≢◌, ◌⊎◌, ℕ, Contains, Some, slice_get, ◌+◌, ◌<◌, ◌≤◌, Bool, ◌&&◌, List, [], ◌∷◌}
use Rattle.std.specs.Prelude.{map, length, take, if◌then◌else◌, nat_eq, IsTrue, IsFalse}
use Rattle.std.specs.List.{AllByRecursion, list_any}
use Rattle.d64_image.specs.Images.{Image, Sector}
use Rattle.d64_image.specs.declared.place.Place.{Place}
use Rattle.disk_pictures.specs.Walks.{IsWalk}
use Rattle.disk_layout.specs.Chain.{EachOnce, Names, NamesNone}
use Rattle.disk_layout.specs.Directory.{IsDirectory, map_place, type_byte}
use Rattle.disk_layout.specs.Layout.{File, Layout, OwnsNothing, is_rel, owners, sides_for}
use Rattle.disk_layout.specs.declared.slot.Slot.{Slot}
use Rattle.disk_pictures.specs.declared.drawn_file.DrawnFile.{DrawnFile}
use Rattle.disk_pictures.specs.declared.owners.Owner.{Owner}
use Rattle.disk_pictures.specs.declared.owners.Owner.TheVariants as owner

-- ps are the sectors that the links come to from the place that the bytes at i name; none if they name no place
abbrev pub GoesFrom : Image → Sector → ℕ → List Place → ℕ → Type 0
GoesFrom img bytes i ps u =
    ((p : Place) × Names bytes i p × IsWalk img p ps u)
    ⊎ (NamesNone bytes i × (ps ≡ []) × (u ≡ 0))

-- the side sectors drawn of an entry with these bytes and n blocks: those that the links come to from the first one, no
-- more than the blocks need
abbrev pub AreDrawnSides : Image → Sector → ℕ → List Place → Type 0
AreDrawnSides img bytes n sides = (ps : List Place) × (u : ℕ) × GoesFrom img bytes 21 ps u
    × (sides ≡ take (sides_for n) ps)

-- what is drawn of an entry: nothing of one that isn't closed
pub record IsDrawnFile (img : Image) (f : File) : Type 0 where
  pub unclosed : type_byte f.slot < 128 → OwnsNothing f
  pub blocks : 128 ≤ type_byte f.slot → GoesFrom img f.slot.bytes 3 f.blocks f.last
  pub plain : IsFalse (is_rel f.slot) → f.sides ≡ []
  pub relative : IsTrue (is_rel f.slot) → AreDrawnSides img f.slot.bytes (length f.blocks) f.sides

-- this is drawn of these entries, in their order
pub record AreDrawn (img : Image) (slots : List Slot) (fs : List File) : Type 0 where
  pub entries : map (λ f. f.slot) fs ≡ slots
  pub files : AllByRecursion (IsDrawnFile img) fs

-- this is drawn of the image: its directory, and each entry as far as its links go
pub record IsDrawn (img : Image) (l : Layout) : Type 0 where
  pub directory : IsDirectory img l.directory (map (λ f. f.slot) l.files)
  pub files : AllByRecursion (IsDrawnFile img) l.files

-- the two are one place
abbrev pub is_place : Place → Place → Bool
is_place p q = nat_eq q.track p.track && nat_eq q.sector p.sector

-- the place is one of these
unfoldable pub has : List Place → Place → Bool
has ps p = list_any (is_place p) ps

-- the first of these entries, the first of them numbered k, that has the sector
unfoldable pub owner_among : ℕ → List File → Place → Owner
owner_among k [] p = owner.Nobody
owner_among k (f ∷ fs) p =
    if has f.blocks p then owner.Blocks k
    else (if has f.sides p then owner.Sides k else owner_among (k + 1) fs p)

-- whose the sector is drawn as: the map's, the directory's, or the first entry's that has it
unfoldable pub owner_of : Layout → Place → Owner
owner_of l p =
    if has (map_place ∷ []) p then owner.Map
    else (if has l.directory p then owner.Directory else owner_among 0 l.files p)

-- an entry as the code holds it
abbrev pub file_in : DrawnFile → File
file_in f = record { slot = f.slot; blocks = f.blocks.items; last = f.last; sides = f.sides.items }

-- what is drawn: these sectors of the directory, and these entries
abbrev pub drawn_of : List Place → List DrawnFile → Layout
drawn_of directory files = record { directory = directory; files = map file_in files }

-- the sector is drawn with this owner, and once: no owner has it twice; it is drawn as nobody's if nothing drawn has it
abbrev pub IsDrawnOnce : Layout → Place → Owner → Type 0
IsDrawnOnce l p owner.Map = p ≡ map_place
IsDrawnOnce l p owner.Directory = Contains l.directory p × EachOnce l.directory
IsDrawnOnce l p (owner.Blocks k) = (f : File) × (slice_get l.files k ≡ Some f) × Contains f.blocks p × EachOnce f.blocks
IsDrawnOnce l p (owner.Sides k) = (f : File) × (slice_get l.files k ≡ Some f) × Contains f.sides p × EachOnce f.sides
IsDrawnOnce l p owner.Nobody =
    (p ≢ map_place) × ¬ (Contains l.directory p)
    × ((f : File) → Contains l.files f → ¬ (Contains f.blocks p) × ¬ (Contains f.sides p))

-- whose the sector is in a layout: the map's, the directory's, or this entry's as a block or as a side sector; or
-- nobody's, if none of these has it
abbrev pub IsOwnedBy : Layout → Place → Owner → Type 0
IsOwnedBy l p owner.Map = p ≡ map_place
IsOwnedBy l p owner.Directory = Contains l.directory p
IsOwnedBy l p (owner.Blocks k) = (f : File) × (slice_get l.files k ≡ Some f) × Contains f.blocks p
IsOwnedBy l p (owner.Sides k) = (f : File) × (slice_get l.files k ≡ Some f) × Contains f.sides p
IsOwnedBy l p owner.Nobody = ¬ (Contains (map_place ∷ owners l) p)
