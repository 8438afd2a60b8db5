-- All faults of a disk, which may be damaged: from what its links come to. Our own.
use Rattle.std.specs.Prelude.{◌≡◌, ◌≢◌, ◌⊎◌, ◌↔◌, ℕ, ◌≤◌, List, [], ◌∷◌, ◌++◌, IsTrue, None, Option, Some}
use Rattle.std.specs.Prelude.{codes, filter, flat_map, length, map, nat_eq, slice_get}
use Rattle.std.specs.List.{AllByRecursion}
use Rattle.std.specs.Io.KnownBytes.{Appends}
use Rattle.line_text.specs.bytes.Texts.{text_of}
use Rattle.d64_image.specs.Images.{Image, Sector, sector}
use Rattle.d64_image.specs.Memory.{sectors_in}
use Rattle.d64_image.specs.Places.{index_of, places}
use Rattle.d64_image.specs.declared.place.Place.{Place}
use Rattle.damaged_files.specs.reached.Directories.{IsReadSoFar}
use Rattle.damaged_files.specs.reached.Names.{name_of}
use Rattle.disk_layout.specs.Clean.{IsVerdict}
use Rattle.disk_layout.specs.Directory.{map_place}
use Rattle.disk_layout.specs.Layout.{IsSound}
use Rattle.disk_layout.specs.Map.{IsFree, map_count}
use Rattle.damaged_files.specs.cut.Told.{IsShortfallOf, shortfall_text}
use Rattle.damaged_files.specs.declared.cut.shortfalls.Shortfall.{Shortfall}
use Rattle.disk_layout.specs.Texts.{fault_text}
use Rattle.disk_layout.specs.declared.faults.Fault.{Fault}
use Rattle.disk_layout.specs.declared.faults.Fault.TheVariants as faults
use Rattle.disk_layout.specs.declared.slot.Slot.{Slot}
use Rattle.layout_check.specs.Marked.{ones_on}
use Rattle.disk_reports.specs.Trails.{IsTrail, Shows}
use Rattle.disk_reports.specs.declared.links.Links.{Links}
use Rattle.disk_reports.specs.declared.trail.Trail.{Trail}

-- these are what the links of the entries come to, in their order
pub record AreFollowed (img : Image) (entries : List Slot) (trails : List Trail) : Type 0 where
  pub slots : map (λ t. t.slot) trails ≡ entries
  pub followed : AllByRecursion (IsTrail img) trails

-- what the links of a disk come to: its directory as far as it can be read, what ends that, and its entries
pub record AreLinks (img : Image) (l : Links) : Type 0 where
  pub entries : List Slot
  pub read : IsReadSoFar img l.directory.items entries l.end
  pub trails : AreFollowed img entries l.trails.items
  pub few : length l.trails.items ≤ 144
  pub header : l.header ≡ sector img map_place
  pub sound : IsTrue l.is_sound ↔ IsSound img

-- how often the sector is among these
abbrev pub times : Place → List Place → ℕ
times p ps = length (filter (λ q. nat_eq (index_of q) (index_of p)) ps)

-- the blocks and the side sectors that an entry comes to
abbrev pub sectors_of : Trail → List Place
sectors_of t = t.blocks.items ++ t.sides.items

-- the sectors of the map, of the directory and of all entries, each as often as it belongs to one
abbrev pub owned : Links → List Place
owned l = map_place ∷ (l.directory.items ++ flat_map sectors_of l.trails.items)

-- an entry shows the fault
abbrev pub IsShownBy : List Trail → Fault → Type 0
IsShownBy trails fault = (k : ℕ) × (t : Trail) × (slice_get trails k ≡ Some t) × Shows t fault

-- the number of free sectors of a track is another than its bits have
abbrev pub HasWrongCount : Sector → Type 0
HasWrongCount bytes = (t : ℕ) × (1 ≤ t) × (t ≤ 35) × (map_count bytes t ≢ ones_on bytes t)

-- the map calls this sector free, and n own it; or it calls it taken, and nobody owns it
abbrev pub IsWrongBit : Sector → Place → ℕ → Type 0
IsWrongBit bytes p n = (IsFree bytes p × (1 ≤ n)) ⊎ (¬ (IsFree bytes p) × (n ≡ 0))

-- the map is wrong about this sector, or at its own sector about the number of free sectors of a track
abbrev pub IsWrongAt : Sector → Place → ℕ → Type 0
IsWrongAt bytes p n = IsWrongBit bytes p n ⊎ ((p ≡ map_place) × HasWrongCount bytes)

-- the fault holds of a disk whose links come to these. BADLINK and LOOP end the directory, or are shown by an entry, as
-- are the faults of entries and side sectors. OWNEDTWICE is at a sector of two. MAPWRONG holds if the disk is sound apart
-- from its map, since only then it is known what is owned
abbrev pub HoldsAmong : Links → Fault → Type 0
HoldsAmong l (faults.BadLink p) =
    (l.end ≡ Some (faults.BadLink p)) ⊎ IsShownBy l.trails.items (faults.BadLink p)
HoldsAmong l (faults.Loop p) = (l.end ≡ Some (faults.Loop p)) ⊎ IsShownBy l.trails.items (faults.Loop p)
HoldsAmong l (faults.OwnedTwice p) = 2 ≤ times p (owned l)
HoldsAmong l (faults.MapWrong p) = IsTrue l.is_sound × IsWrongAt l.header p (times p (owned l))
HoldsAmong l (faults.Device p) = ⊥
HoldsAmong l fault = IsShownBy l.trails.items fault

-- it holds, and isn't the one that a check finds
abbrev pub HoldsToo : Links → Fault → Fault → Type 0
HoldsToo l first fault = HoldsAmong l fault × (fault ≢ first)

-- the faults that a sector may have, in the order in which they are listed
abbrev pub faults_at : Place → List Fault
faults_at p =
    faults.BadLink p ∷ faults.Loop p ∷ faults.OwnedTwice p ∷ faults.BadType p ∷ faults.Unclosed p ∷ faults.BadLength p
    ∷ faults.BadSide p ∷ faults.CountWrong p ∷ faults.MapWrong p ∷ []

-- those of the first list that have P, in their order, as `pick` gives them
abbrev pub AreThose : {X Y : Type 0} → (X → Type 0) → (X → Y) → List X → List Y → Type 0
AreThose P pick [] [] = Unit {0}
AreThose P pick [] (y ∷ ys) = ⊥
AreThose P pick (x ∷ xs) [] = ¬ (P x) × AreThose P pick xs []
AreThose P pick (x ∷ xs) (y ∷ ys) =
    (P x × (y ≡ pick x) × AreThose P pick xs ys) ⊎ (¬ (P x) × AreThose P pick xs (y ∷ ys))

-- the entries that show the fault, or have the sector at which it is
abbrev pub AreShown : List Trail → Fault → List Slot → Type 0
AreShown trails fault files = AreThose (λ t. Shows t fault) (λ t. t.slot) trails files

-- after a space a name between quotation marks, as it can be typed
abbrev pub spaced_name : Slot → List ℕ
spaced_name s = codes " \"" ++ (text_of (name_of s) ++ codes "\"")

-- the line of a fault with the files that it concerns: OWNEDTWICE 6/17 "LETTER 02" "LETTER 04"
abbrev pub fault_line : Fault → List Slot → List ℕ
fault_line fault files = fault_text fault ++ (flat_map spaced_name files ++ codes "\n")

-- the lines of several faults
abbrev pub AreLines : Links → List Fault → List ℕ → Type 0
AreLines l [] text = text ≡ []
AreLines l (fault ∷ more) text = (files : List Slot) × AreShown l.trails.items fault files
    × ((rest : List ℕ) × (text ≡ fault_line fault files ++ rest) × AreLines l more rest)

-- the line of a fault was written
abbrev pub IsLine : Links → Fault → Option (List ℕ) → Option (List ℕ) → Type 0
IsLine l fault old new = (files : List Slot) × AreShown l.trails.items fault files × Appends old new (fault_line fault files)

-- the lines of these faults were
abbrev pub ArePrinted : Links → List Fault → Option (List ℕ) → Option (List ℕ) → Type 0
ArePrinted l fs old new = (text : List ℕ) × AreLines l fs text × Appends old new text

-- from the one list to the other, those of these faults were appended that hold and aren't the first one
abbrev pub IsGathered : Links → Fault → List Fault → List Fault → List Fault → Type 0
IsGathered l first candidates old new =
    (more : List Fault) × AreThose (HoldsToo l first) (λ f. f) candidates more × (new ≡ old ++ more)

-- all other faults than the first one that hold, each once, in the order of the disk
abbrev pub AreOthers : Links → Fault → List Fault → Type 0
AreOthers l first others = AreThose (HoldsToo l first) (λ f. f) (flat_map faults_at places) others

-- what is printed of an image: OK if a check finds none; otherwise the line of the fault that it finds, and those of all
-- others that hold
abbrev pub IsListing : Image → Option Fault → List ℕ → Type 0
IsListing img None text = text ≡ codes "OK\n"
IsListing img (Some first) text = (l : Links) × AreLinks img l
    × ((others : List Fault) × AreOthers l first others × AreLines l (first ∷ others) text)

-- this was printed of the image
abbrev pub IsListed : Image → Option Fault → Option (List ℕ) → Option (List ℕ) → Type 0
IsListed img found old new = (text : List ℕ) × IsListing img found text × Appends old new text

-- the line of what a file lacks
abbrev pub shortfall_line : Option Shortfall → List ℕ
shortfall_line None = []
shortfall_line (Some lack) = shortfall_text lack ++ codes "\n"

-- the faults of the image, and what its files lack, were printed on an output that held `old` and holds `new`; a check of
-- it finds this
pub record AreListed {W : Type 0} (contents : W → Option (List ℕ)) (image : List ℕ) (old new : W)
    (found : Option Fault) : Type 0 where
  pub size : length image ≡ 174848
  pub verdict : IsVerdict (sectors_in image) found
  pub lack : Option Shortfall
  pub lacks : IsShortfallOf (sectors_in image) lack
  pub text : List ℕ
  pub listing : IsListing (sectors_in image) found text
  pub printed : Appends (contents old) (contents new) (text ++ shortfall_line lack)
