-- What differs between two disks: sectors, files and records. Our own.
use Rattle.std.specs.Prelude.{ℕ, ◌+◌, ◌*◌, ◌-◌, ◌/◌, ◌%◌, ◌&&◌, ◌||◌, Bool, true, false, not, List, [], ◌∷◌, Option, Some, None}
use Rattle.std.specs.Prelude.{bytes_eq, drop, filter, if◌then◌else◌, length, max, nat_eq, nat_lt, option_map, slice_get, take}
use Rattle.std.specs.List.{list_any}
use Rattle.d64_image.specs.Images.{Image, Sector, sector}
use Rattle.d64_image.specs.Places.{index_of}
use Rattle.d64_image.specs.declared.place.Place.{Place}
use Rattle.disk_layout.specs.Chain.{byte}
use Rattle.disk_layout.specs.Layout.{File, Layout, record_length}
use Rattle.damaged_files.specs.reached.Names.{name_of}
use Rattle.disk_pictures.specs.Pictures.{each_place}
use Rattle.disk_pictures.specs.Texts.{any_below, has_records, records_in}
use Rattle.disk_pictures.specs.declared.verdicts.Verdict.{Verdict}

-- a disk of a comparison: the path of its image, its sectors, its 18/0, what is drawn of it, and what is reported of it
pub record Disk : Type 0 where
  pub path : List ℕ
  pub image : Image
  pub map : Sector
  pub layout : Layout
  pub verdict : Verdict

-- the two disks hold other bytes at this place
abbrev pub differs : Image → Image → Place → Bool
differs a b p = not (bytes_eq (sector a p) (sector b p))

-- what is written for each sector that differs, track by track
unfoldable pub each_difference : (Place → List ℕ) → Image → Image → List ℕ
each_difference line a b = each_place (λ p. if differs a b p then line p else [])

-- the number of a sector, from 0
abbrev pub number_of : Place → List ℕ
number_of p = index_of p ∷ []

-- an entry has this name
abbrev pub is_called : List ℕ → File → Bool
is_called name f = bytes_eq (name_of f.slot) name

-- those of these entries that have this name
abbrev pub called : List ℕ → List File → List File
called name fs = filter (is_called name) fs

-- f is entry k of these, the n-th of its name; its counterpart among the others is the n-th of that name there
unfoldable pub counterpart : List File → List File → ℕ → File → Option File
counterpart others fs k f =
    slice_get (called (name_of f.slot) others) (length (called (name_of f.slot) (take k fs)))

-- the entries differ, as far as they are theirs: the first two bytes of a slot aren't
abbrev pub is_entry_changed : File → File → Bool
is_entry_changed g f = not (bytes_eq (drop 2 g.slot.bytes) (drop 2 f.slot.bytes))

-- one of the sectors of the file differs, a block or a side sector
abbrev pub are_sectors_changed : Image → Image → File → Bool
are_sectors_changed a b f = list_any (differs a b) f.blocks || list_any (differs a b) f.sides

-- how many bytes a file has: 254 in each block, but in the last one those up to its last index
abbrev pub file_length : File → ℕ
file_length f = 254 * (length f.blocks - 1) + (max f.last 1 - 1)

-- byte i of a file: it is in block i / 254, after the link
unfoldable pub file_byte : Image → File → ℕ → Option ℕ
file_byte img f i =
    if nat_lt i (file_length f) then option_map (λ p. byte img p (2 + i % 254)) (slice_get f.blocks (i / 254)) else None

-- the two are different bytes, or only one is there
abbrev pub is_other : Option ℕ → Option ℕ → Bool
is_other None None = false
is_other (Some x) (Some y) = not (nat_eq x y)
is_other _ _ = true

-- of the n bytes from i on one differs between the file g of one disk and the file f of the other
unfoldable pub is_changed_within : Image → Image → File → File → ℕ → ℕ → Bool
is_changed_within a b g f i n = any_below n (λ j. is_other (file_byte a g (i + j)) (file_byte b f (i + j)))

-- the contents differ
abbrev pub are_bytes_changed : Image → Image → File → File → Bool
are_bytes_changed a b g f = is_changed_within a b g f 0 (max (file_length g) (file_length f))

-- record n, from 0, differs
abbrev pub is_record_changed : Image → Image → File → File → ℕ → Bool
is_record_changed a b g f n = is_changed_within a b g f (n * record_length f.slot) (record_length f.slot)

-- whether the record before it changed, if there is one
abbrev pub is_record_changed_before : Image → Image → File → File → ℕ → Bool
is_record_changed_before a b g f n = if nat_eq n 0 then false else is_record_changed a b g f (n - 1)

-- both are relative files, with records of the same length
abbrev pub have_same_records : File → File → Bool
have_same_records g f =
    has_records g && (has_records f && nat_eq (record_length g.slot) (record_length f.slot))

-- how many records the longer one has
abbrev pub most_records : File → File → ℕ
most_records g f = max (records_in g) (records_in f)
