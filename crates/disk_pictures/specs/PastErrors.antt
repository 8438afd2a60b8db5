-- Sectors past track 35 that weren't read, and those that several files have (the D64 layout: an error byte for each sector). The lines are
-- our own.
use Rattle.std.specs.Prelude.{ℕ, ◌&&◌, ◌||◌, ◌++◌, Bool, List, [], None, Option, Some, codes, decimal, filter, flat_map, nat_le, option_map}
use Rattle.std.specs.Prelude.{slice_get, slice_index}
use Rattle.std.specs.List.{range_with_len}
use Rattle.disk_layout.specs.Directory.{type_byte}
use Rattle.disk_layout.specs.Layout.{File, Layout}
use Rattle.disk_layout.specs.declared.slot.Slot.{Slot}
use Rattle.disk_pictures.specs.Trims.{error_number, errors_text, name_text}
use Rattle.geos_files.specs.Long.{is_in_long_geos}
use Rattle.long_chains.specs.Chains.{is_on_chain}
use Rattle.long_chains.specs.Sectors.{error_in, misread_past, sector_past, track_past}

-- The entry is closed, and its file has the sector: the file's chain over all tracks of the image comes to its end, and has it; or it is a
-- file of GEOS of which the image has all, and one of its sectors is this
abbrev pub is_entrys : (image : List ℕ) → (number : ℕ) → File → Bool
is_entrys image n f =
    nat_le 128 (type_byte f.slot) && (is_on_chain image (slice_index f.slot.bytes 3) (slice_index f.slot.bytes 4) n
    || is_in_long_geos image f.slot n)

-- those of these entries that have it
unfoldable pub having : (image : List ℕ) → (number : ℕ) → List File → List File
having image n fs = filter (is_entrys image n) fs

-- the k-th entry that has it, from 0, if they are drawn
abbrev pub nth_past : (image : List ℕ) → Option Layout → (number k : ℕ) → Option Slot
nth_past image None n k = None
nth_past image (Some l) n k = option_map (λ f. f.slot) (slice_get (having image n l.files) k)

-- the first one
abbrev pub entry_past : (image : List ℕ) → Option Layout → (number : ℕ) → Option Slot
entry_past image drawn n = nth_past image drawn n 0

-- track and sector
abbrev pub past_place : (number : ℕ) → List ℕ
past_place n = decimal (track_past n) ++ (codes "/" ++ decimal (sector_past n))

-- the line of a sector that wasn't read, with the entry that has it: ERROR 23 36/4 "NAME"
abbrev pub past_error : (number : ℕ) → Option Slot → (error : ℕ) → List ℕ
past_error n entry e =
    codes "ERROR " ++ (error_number e ++ (codes " " ++ (past_place n ++ (name_text entry ++ codes "\n"))))

abbrev pub past_error_line : (number : ℕ) → Option Slot → Option ℕ → List ℕ
past_error_line n entry None = []
past_error_line n entry (Some e) = past_error n entry e

-- those of the tracks 36 to 42
abbrev pub past_errors_text : (image : List ℕ) → Option Layout → List ℕ
past_errors_text image drawn =
    flat_map (λ n. past_error_line n (entry_past image drawn n) (error_in image n)) (misread_past image)

-- the line of a sector that two files have: OWNEDTWICE 36/4 "NAME" "OTHER"
abbrev pub past_sharing : (number : ℕ) → (first : Option Slot) → (second : Slot) → List ℕ
past_sharing n first second =
    codes "OWNEDTWICE " ++ (past_place n ++ (name_text first ++ (name_text (Some second) ++ codes "\n")))

abbrev pub past_sharing_line : (number : ℕ) → (first second : Option Slot) → List ℕ
past_sharing_line n first None = []
past_sharing_line n first (Some s) = past_sharing n first s

-- the sectors of tracks 36 to 42
unfoldable pub sectors_past : List ℕ
sectors_past = range_with_len 683 119

-- the lines of those that several files have, with the first two of these
abbrev pub past_sharings_text : (image : List ℕ) → Option Layout → List ℕ
past_sharings_text image drawn =
    flat_map (λ n. past_sharing_line n (nth_past image drawn n 0) (nth_past image drawn n 1)) sectors_past

-- which sectors of all tracks weren't read, and which past track 35 several files have
abbrev pub misread_text : (image : List ℕ) → Option Layout → List ℕ
misread_text image drawn = errors_text image drawn ++ (past_errors_text image drawn ++ past_sharings_text image drawn)
