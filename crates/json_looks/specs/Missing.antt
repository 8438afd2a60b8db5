-- What an image hasn't besides its disk as objects of JSON. What their members are called is our own.
use Rattle.std.specs.Prelude.{ℕ, List, [], ◌∷◌, ◌++◌, None, Option, Some, codes, flat_map, option_map}
use Rattle.d64_image.specs.Places.{places}
use Rattle.d64_image.specs.declared.place.Place.{Place}
use Rattle.damaged_files.specs.reached.Names.{name_of}
use Rattle.damaged_files.specs.reached.Sizes.{error_of}
use Rattle.disk_layout.specs.Layout.{File, Layout}
use Rattle.disk_layout.specs.declared.slot.Slot.{Slot}
use Rattle.disk_pictures.specs.PastErrors.{entry_past}
use Rattle.disk_pictures.specs.Trims.{blocks_past, entry_at, error_number, sides_past}
use Rattle.json_looks.specs.Entries.{typed}
use Rattle.json_looks.specs.Objects.{count}
use Rattle.long_chains.specs.Sectors.{error_in, misread_past, sector_past, track_past}
use Rattle.line_text.specs.bytes.Texts.{text_of}
use Rattle.serde_json.specs.Data.{Data, member, no_members, null, object, string}

-- a text, if there is one
abbrev pub string_if : Option (List ℕ) → Data
string_if None = null
string_if (Some text) = string text

-- a sector that wasn't read: the drive's number of the error, and the name of the entry that has the sector
abbrev pub error_item : Place → Option Slot → Option ℕ → List Data
error_item p entry None = []
error_item p entry (Some e) =
    object (member (codes "error") (string (error_number e))
    (member (codes "name") (string_if (option_map (λ s. text_of (name_of s)) entry))
    (member (codes "sector") (count p.sector) (member (codes "track") (count p.track) no_members)))) ∷ []

-- those of tracks 1 to 35, in the order of an image, with this drawn
abbrev pub error_items : (image : List ℕ) → Option Layout → List Data
error_items image drawn = flat_map (λ p. error_item p (entry_at drawn p) (error_of image p)) places

-- the same of a sector past track 35
abbrev pub past_error_item : (number : ℕ) → Option Slot → Option ℕ → List Data
past_error_item n entry None = []
past_error_item n entry (Some e) =
    object (member (codes "error") (string (error_number e))
    (member (codes "name") (string_if (option_map (λ s. text_of (name_of s)) entry))
    (member (codes "sector") (count (sector_past n)) (member (codes "track") (count (track_past n)) no_members)))) ∷ []

-- those of tracks 36 to 42
abbrev pub past_error_items : (image : List ℕ) → Option Layout → List Data
past_error_items image drawn =
    flat_map (λ n. past_error_item n (entry_past image drawn n) (error_in image n)) (misread_past image)

-- those of all tracks
abbrev pub misread_items : (image : List ℕ) → Option Layout → List Data
misread_items image drawn = error_items image drawn ++ past_error_items image drawn

-- where a file of this name goes on past track 35, if it does
abbrev pub past_item : Slot → Option Place → List Data
past_item s None = []
past_item s (Some p) =
    object (member (codes "name") (typed (name_of s)) (member (codes "sector") (count p.sector)
    (member (codes "track") (count p.track) no_members))) ∷ []

-- where the blocks of a file go on there, and where its side sectors do
abbrev pub past_items : (image : List ℕ) → File → List Data
past_items image f = past_item f.slot (blocks_past image f) ++ past_item f.slot (sides_past image f)

-- those of all files, if they are drawn
abbrev pub beyond_items : (image : List ℕ) → Option Layout → List Data
beyond_items image None = []
beyond_items image (Some l) = flat_map (past_items image) l.files
