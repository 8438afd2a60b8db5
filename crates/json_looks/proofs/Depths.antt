-- How deep the objects nest.
use Rattle.std.proofs.Common.{◌≤◌, ◌++◌, ◌∷◌, [], ℕ, zero, suc, List, None, Option, Some, arith, map}
use Rattle.std.specs.Prelude.{flat_map, option_map}
use Rattle.d64_image.specs.Images.{Sector}
use Rattle.d64_image.specs.Places.{places}
use Rattle.d64_image.specs.declared.place.Place.{Place}
use Rattle.damaged_files.specs.declared.cut.shortfalls.Shortfall.{Shortfall}
use Rattle.damaged_files.specs.reached.Names.{name_of}
use Rattle.damaged_files.specs.reached.Sizes.{error_of}
use Rattle.disk_layout.specs.Layout.{File, Layout}
use Rattle.disk_layout.specs.Texts.{place_text}
use Rattle.disk_layout.specs.declared.faults.Fault.{Fault}
use Rattle.disk_layout.specs.declared.slot.Slot.{Slot}
use Rattle.geos_files.specs.Entries.{geos_entry}
use Rattle.geos_files.specs.declared.entries.GeosEntry.{GeosEntry}
use Rattle.disk_pictures.specs.Drawings.{owner_of}
use Rattle.disk_pictures.specs.Trims.{blocks_past, entry_at, error_number, sides_past}
use Rattle.disk_pictures.specs.declared.verdicts.Verdict.{Verdict}
use Rattle.json_looks.specs.Checks.{check_data, fewer_end, short_end, unchecked_data}
use Rattle.json_looks.specs.Entries.{count_if, entry_data, geos_members, record_length_of, typed}
use Rattle.json_looks.specs.FreeCounts.{free_data, track_data}
use Rattle.json_looks.specs.Listings.{list_data}
use Rattle.json_looks.specs.Missing.{beyond_items, error_item, error_items, misread_items, past_error_item, past_error_items}
use Rattle.json_looks.specs.Missing.{past_item, past_items, string_if}
use Rattle.disk_pictures.specs.PastErrors.{entry_past}
use Rattle.long_chains.specs.Sectors.{error_in, misread_past}
use Rattle.json_looks.specs.Objects.{up_to}
use Rattle.json_looks.specs.SectorMaps.{file_number, map_data, sector_data}
use Rattle.json_looks.specs.Verdicts.{found_place}
use Rattle.line_text.specs.bytes.Texts.{text_of}
use Rattle.serde_json.specs.Data.{Data, depth, items_depth}
use Rattle.serde_json.specs.View.{items_of}

-- of these none nests deeper than n
abbrev pub AreFlat : ℕ → List Data → Type 0
AreFlat n [] = Unit {0}
AreFlat n (d ∷ ds) = (depth d ≤ n) × AreFlat n ds

-- nor do they as items
pub items-flat : (n : ℕ) (ds : List Data) → AreFlat n ds → items_depth (items_of ds) ≤ n
items-flat n [] flat = omega arith
items-flat n (d ∷ ds) (first, rest) =
    let behind = items-flat n ds rest in
    omega arith

-- these and those don't either
pub both-flat : (n : ℕ) (ds es : List Data) → AreFlat n ds → AreFlat n es → AreFlat n (ds ++ es)
both-flat n [] es first second = second
both-flat n (d ∷ ds) es (first, rest) second = (first, both-flat n ds es rest second)

-- one of each
pub mapped-flat : {A : Type 0} (n : ℕ) (f : A → Data) → ((x : A) → depth (f x) ≤ n) → (xs : List A) → AreFlat n (map f xs)
mapped-flat n f flat [] = tt
mapped-flat n f flat (x ∷ xs) = (flat x, mapped-flat n f flat xs)

-- those for the numbers up to k
pub numbered-flat : (n : ℕ) (each : ℕ → List Data) → ((m : ℕ) → AreFlat n (each m)) → (k : ℕ) → AreFlat n (up_to k each)
unfolding up_to
numbered-flat n each flat zero = tt
numbered-flat n each flat (suc k) = both-flat n (up_to k each) (each (suc k)) (numbered-flat n each flat k) (flat (suc k))

count-flat : (n : Option ℕ) → depth (count_if n) ≤ 0
count-flat None = omega arith
count-flat (Some n) = omega arith

geos-flat : (s : Slot) (entry : Option GeosEntry) → depth (geos_members s entry) ≤ 1
geos-flat s None = omega arith
geos-flat s (Some entry) = omega arith

-- an entry
pub entry-flat : (s : Slot) → depth (entry_data s) ≤ 2
entry-flat s =
    let geos = geos-flat s (geos_entry s) in
    let length = count-flat (record_length_of s) in
    omega arith

-- a directory
pub list-flat : (name : List ℕ) (bytes : Sector) (entries : List Slot) → depth (list_data name bytes entries) ≤ 127
list-flat name bytes entries =
    let inner = items-flat 2 (map entry_data entries) (mapped-flat 2 entry_data entry-flat entries) in
    omega arith

track-flat : (bytes : Sector) (track : ℕ) → AreFlat 1 (track_data bytes track ∷ [])
track-flat bytes track = (omega arith, tt)

-- the free sectors
pub free-flat : (name : List ℕ) (bytes : Sector) → depth (free_data name bytes) ≤ 127
free-flat name bytes =
    let each : ℕ → List Data = λ track. track_data bytes track ∷ [] in
    let inner = items-flat 1 (up_to 35 each) (numbered-flat 1 each (track-flat bytes) 35) in
    omega arith

-- those of all of these
pub gathered-flat : {A : Type 0} (n : ℕ) (part : A → List Data) → ((x : A) → AreFlat n (part x)) → (xs : List A) → AreFlat n (flat_map part xs)
gathered-flat n part flat [] = tt
gathered-flat n part flat (x ∷ xs) = both-flat n (part x) (flat_map part xs) (flat x) (gathered-flat n part flat xs)

text-flat : (text : Option (List ℕ)) → depth (string_if text) ≤ 0
text-flat None = omega arith
text-flat (Some text) = omega arith

past-flat : (s : Slot) (place : Option Place) → AreFlat 1 (past_item s place)
past-flat s None = tt
past-flat s (Some p) = (omega arith, tt)

file-past-flat : (image : List ℕ) (f : File) → AreFlat 1 (past_items image f)
file-past-flat image f =
    both-flat 1 (past_item f.slot (blocks_past image f)) (past_item f.slot (sides_past image f))
    (past-flat f.slot (blocks_past image f)) (past-flat f.slot (sides_past image f))

error-flat : (p : Place) (entry : Option Slot) (error : Option ℕ) → AreFlat 1 (error_item p entry error)
error-flat p entry None = tt
error-flat p entry (Some e) =
    let name = text-flat (option_map (λ s. text_of (name_of s)) entry) in
    (omega arith, tt)

sector-flat : (image : List ℕ) (bytes : Sector) (l : Layout) (p : Place) → depth (sector_data image bytes l p) ≤ 1
sector-flat image bytes l p =
    let error = text-flat (option_map error_number (error_of image p)) in
    let file = count-flat (file_number (owner_of l p)) in
    omega arith

-- a map
pub map-flat : (name image : List ℕ) (v : Verdict) (bytes : Sector) (l : Layout) → depth (map_data name image v bytes l) ≤ 127
map-flat name image v bytes l =
    let beyond = items-flat 1 (flat_map (past_items image) l.files) (gathered-flat 1 (past_items image) (file-past-flat image) l.files) in
    let entry : File → Data = λ f. entry_data f.slot in
    let files = items-flat 2 (map entry l.files) (mapped-flat 2 entry (λ f. entry-flat f.slot) l.files) in
    let sectors = items-flat 1 (map (sector_data image bytes l) places) (mapped-flat 1 (sector_data image bytes l) (sector-flat image bytes l) places) in
    let at = count-flat (option_map (λ (p : Place). p.sector) (found_place v.found)) in
    let on = count-flat (option_map (λ (p : Place). p.track) (found_place v.found)) in
    let short = text-flat (option_map place_text v.cut) in
    omega arith

beyond-flat : (image : List ℕ) (drawn : Option Layout) → AreFlat 1 (beyond_items image drawn)
beyond-flat image None = tt
beyond-flat image (Some l) = gathered-flat 1 (past_items image) (file-past-flat image) l.files

errors-flat : (image : List ℕ) (drawn : Option Layout) → AreFlat 1 (error_items image drawn)
errors-flat image drawn =
    gathered-flat 1 (λ p. error_item p (entry_at drawn p) (error_of image p))
    (λ p. error-flat p (entry_at drawn p) (error_of image p)) places

past-error-flat : (n : ℕ) (entry : Option Slot) (error : Option ℕ) → AreFlat 1 (past_error_item n entry error)
past-error-flat n entry None = tt
past-error-flat n entry (Some e) =
    let name = text-flat (option_map (λ s. text_of (name_of s)) entry) in
    (omega arith, tt)

misread-flat : (image : List ℕ) (drawn : Option Layout) → AreFlat 1 (misread_items image drawn)
misread-flat image drawn =
    both-flat 1 (error_items image drawn) (past_error_items image drawn) (errors-flat image drawn)
    (gathered-flat 1 (λ n. past_error_item n (entry_past image drawn n) (error_in image n))
    (λ n. past-error-flat n (entry_past image drawn n) (error_in image n)) (misread_past image))

-- a check
pub check-flat : (name image : List ℕ) (found : Option Fault) (files : List Slot) (bytes : Sector) (lack : Option Shortfall)
    (drawn : Option Layout) → depth (check_data name image found files bytes lack drawn) ≤ 127
check-flat name image found files bytes lack drawn =
    let beyond = items-flat 1 (beyond_items image drawn) (beyond-flat image drawn) in
    let errors = items-flat 1 (misread_items image drawn) (misread-flat image drawn) in
    let fewer = text-flat (option_map place_text (fewer_end lack)) in
    let name_data : Slot → Data = λ s. typed (name_of s) in
    let names = items-flat 0 (map name_data files) (mapped-flat 0 name_data (λ s. omega arith) files) in
    let at = count-flat (option_map (λ (p : Place). p.sector) (found_place found)) in
    let on = count-flat (option_map (λ (p : Place). p.track) (found_place found)) in
    let short = text-flat (option_map place_text (short_end lack)) in
    omega arith

-- and one that is refused
pub unchecked-flat : (name : List ℕ) (size : Option ℕ) (why : List ℕ) → depth (unchecked_data name size why) ≤ 127
unchecked-flat name size why =
    let bytes = count-flat size in
    omega arith
