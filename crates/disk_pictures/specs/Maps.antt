-- The map of a disk as it is printed for a terminal. Our own.
use Rattle.std.specs.Prelude.{ℕ, ◌+◌, ◌%◌, ◌/◌, Bool, List, [], ◌∷◌, ◌++◌, Option, if◌then◌else◌, codes, decimal, length}
use Rattle.std.specs.Prelude.{None, Some, nat_lt, slice_index}
use Rattle.d64_image.specs.Images.{Sector}
use Rattle.d64_image.specs.Places.{place_at}
use Rattle.d64_image.specs.declared.place.Place.{Place}
use Rattle.disk_layout.specs.Directory.{type_byte}
use Rattle.disk_layout.specs.Layout.{File, Layout, count_field, record_length}
use Rattle.disk_layout.specs.declared.faults.Fault.{Fault}
use Rattle.disk_layout.specs.declared.slot.Slot.{Slot}
use Rattle.geos_files.specs.Entries.{geos_entry}
use Rattle.geos_files.specs.Types.{geos_type_name, structure_name}
use Rattle.geos_files.specs.declared.entries.GeosEntry.{GeosEntry}
use Rattle.line_text.specs.bytes.Texts.{text_of}
use Rattle.disk_pictures.specs.Drawings.{owner_of}
use Rattle.damaged_files.specs.reached.Names.{name_of}
use Rattle.disk_pictures.specs.Texts.{at_place, each_below, has_records, is_fault_at, is_free, numbered, records_in}
use Rattle.damaged_files.specs.reached.Types.{type_text}
use Rattle.disk_pictures.specs.Texts.{verdict_text}
use Rattle.disk_pictures.specs.declared.verdicts.Verdict.{Verdict}
use Rattle.disk_pictures.specs.declared.owners.Owner.{Owner}
use Rattle.disk_pictures.specs.declared.owners.Owner.TheVariants as owner

-- the letter of entry k among 26 from this one on: 97 is a, 65 is A
abbrev pub letter : ℕ → ℕ → ℕ
letter first k = first + k % 26

-- the digit after the letter of entry k: how many entries before it have its letter
abbrev pub digit : ℕ → ℕ
digit k = 48 + k / 26 % 10

-- there are more than 26 entries, so that a letter doesn't distinguish them
abbrev pub is_wide : Layout → Bool
is_wide l = nat_lt 26 (length l.files)

-- the mark of a sector: * map, = directory, a letter for a block of an entry, its capital for a side sector, . free; ?
-- taken in the map and of no entry
abbrev pub owner_mark : Sector → Place → Owner → ℕ
owner_mark map p owner.Map = 42
owner_mark map p owner.Directory = 61
owner_mark map p (owner.Blocks k) = letter 97 k
owner_mark map p (owner.Sides k) = letter 65 k
owner_mark map p owner.Nobody = if is_free map p then 46 else 63

-- and ! for the sector of the fault
abbrev pub mark_of : Option Fault → Sector → Layout → Place → ℕ
mark_of v map l p = if is_fault_at v p then 33 else owner_mark map p (owner_of l p)

-- what stands after the mark of a sector: its entry's digit, or the mark again
abbrev pub owner_second : Sector → Place → Owner → ℕ
owner_second map p (owner.Blocks k) = digit k
owner_second map p (owner.Sides k) = digit k
owner_second map p o = owner_mark map p o

-- what stands after the mark of a sector; at the place of the fault a `!` again
abbrev pub second_of : Option Fault → Sector → Layout → Place → ℕ
second_of v map l p = if is_fault_at v p then 33 else owner_second map p (owner_of l p)

-- what is printed of a sector: its mark, and with more than 26 entries what stands after it
abbrev pub sector_mark : Option Fault → Sector → Layout → Place → List ℕ
sector_mark v map l p = mark_of v map l p ∷ (if is_wide l then second_of v map l p ∷ [] else [])

-- an entry has the sector, as a block or as a side sector
abbrev pub IsEntrys : Owner → Type 0
IsEntrys (owner.Blocks k) = Unit {0}
IsEntrys (owner.Sides k) = Unit {0}
IsEntrys o = ⊥

-- a sector of a map with more than 26 entries, after a blank
unfoldable pub cell_text : Option Fault → Sector → Layout → Place → List ℕ
cell_text v map l p = codes " " ++ (mark_of v map l p ∷ second_of v map l p ∷ [])

-- the number of a track in two columns
abbrev pub track_number : ℕ → List ℕ
track_number t = (if nat_lt t 10 then codes " " else []) ++ decimal t

-- the number of a track in two columns, and a blank
abbrev pub track_text : ℕ → List ℕ
track_text t = (if nat_lt t 10 then codes " " else []) ++ (decimal t ++ codes " ")

-- the line of a track: its number, and the marks of its sectors
unfoldable pub track_line : Option Fault → Sector → Layout → ℕ → List ℕ
track_line v map l t =
    track_text t ++ (each_below 21 (λ s. at_place (λ p. mark_of v map l p ∷ []) (place_at t s)) ++ codes "\n")

-- record length and number of records, if they are printed
abbrev pub records_text : File → List ℕ
records_text f =
    if has_records f then codes " LENGTH "
    ++ (decimal (record_length f.slot) ++ (codes " RECORDS " ++ decimal (records_in f)))
    else []

-- the line of a track on a map with more than 26 entries
unfoldable pub wide_line : Option Fault → Sector → Layout → ℕ → List ℕ
wide_line v map l t =
    track_number t ++ (each_below 21 (λ s. at_place (cell_text v map l) (place_at t s)) ++ codes "\n")

-- what the line of entry k begins with: its letter, and with more than 26 entries its digit
abbrev pub entry_mark : Bool → ℕ → List ℕ
entry_mark wide k = letter 97 k ∷ (if wide then digit k ∷ [] else [])

-- what GEOS calls the structure and the type of its file, such as GEOS VLIR Application; nothing of an entry that isn't of GEOS
abbrev pub geos_named : Slot → Option GeosEntry → List ℕ
geos_named s None = []
geos_named s (Some entry) =
    codes " GEOS " ++ (structure_name entry.has_records ++ (codes " " ++ geos_type_name (slice_index s.bytes 24)))

abbrev pub geos_text : Slot → List ℕ
geos_text s = geos_named s (geos_entry s)

-- the line of entry k: its mark, its block count as stored, its name, its type, its records, and what it is to GEOS
unfoldable pub entry_line : Bool → ℕ → File → List ℕ
entry_line wide k f =
    entry_mark wide k ++ (codes " " ++ (decimal (count_field f.slot) ++ (codes " \"" ++ (text_of (name_of f.slot)
    ++ (codes "\" " ++ (type_text (codes "<") (type_byte f.slot) ++ (records_text f ++ (geos_text f.slot ++ codes "\n"))))))))

-- the numbers of the sectors above the tracks
abbrev pub map_head : List ℕ
map_head = codes "   0         1         2\n   012345678901234567890\n"

-- the numbers of the sectors above tracks with two characters for each sector
abbrev pub wide_head : List ℕ
wide_head = codes "   00 01 02 03 04 05 06 07 08 09 10 11 12 13 14 15 16 17 18 19 20\n"

-- tracks 1 to 35 under these numbers, with a character for each sector
unfoldable pub narrow_tracks : Option Fault → Sector → Layout → List ℕ
narrow_tracks v map l = map_head ++ each_below 35 (λ b. track_line v map l (b + 1))

-- tracks 1 to 35 under their numbers, with two characters for each sector
unfoldable pub wide_tracks : Option Fault → Sector → Layout → List ℕ
wide_tracks v map l = wide_head ++ each_below 35 (λ b. wide_line v map l (b + 1))

-- the tracks, in one of these two forms
abbrev pub tracks_text : Bool → Option Fault → Sector → Layout → List ℕ
tracks_text wide v map l = if wide then wide_tracks v map l else narrow_tracks v map l

-- the map: the tracks, the entries, and the result of a check
unfoldable pub map_text : Verdict → Sector → Layout → List ℕ
map_text v map l =
    tracks_text (is_wide l) v.found map l ++ (numbered (entry_line (is_wide l)) 0 l.files ++ (verdict_text v ++ codes "\n"))
