-- What a check finds of an image as an object of JSON. What its members are called is our own.
use Rattle.std.specs.Prelude.{◌≡◌, ◌↔◌, ℕ, Bool, IsTrue, List, [], ◌∷◌, None, Option, Some, Result, Ok, Err, codes, length, map, option_map, slice_range}
use Rattle.d64_image.specs.Images.{Sector}
use Rattle.d64_image.specs.Memory.{sectors_in}
use Rattle.d64_image.specs.declared.place.Place.{Place}
use Rattle.damaged_files.specs.cut.Told.{IsShortfallOf}
use Rattle.damaged_files.specs.declared.cut.shortfalls.Shortfall.{Shortfall}
use Rattle.damaged_files.specs.declared.cut.shortfalls.Shortfall.TheVariants as lacks
use Rattle.damaged_files.specs.reached.Names.{disk_name, name_of}
use Rattle.damaged_files.specs.reached.Sizes.{IsImageSize, disk_of}
use Rattle.disk_layout.specs.Clean.{IsVerdict}
use Rattle.disk_layout.specs.Layout.{Layout}
use Rattle.disk_layout.specs.Texts.{place_text}
use Rattle.disk_layout.specs.View.{blocks_free}
use Rattle.disk_layout.specs.declared.faults.Fault.{Fault}
use Rattle.disk_layout.specs.declared.slot.Slot.{Slot}
use Rattle.disk_pictures.specs.Held.{drawn_in}
use Rattle.disk_pictures.specs.Missing.{IsDrawnOf}
use Rattle.disk_pictures.specs.Outcomes.{map_in}
use Rattle.disk_pictures.specs.declared.drawing.Drawing.{Drawing}
use Rattle.disk_reports.specs.Outcomes.{AreFound}
use Rattle.disk_reports.specs.Rows.{row_as_is}
use Rattle.std.specs.Io.KnownBytes.{Appends}
use Rattle.command_faults.specs.declared.faults.CommandFault.{CommandFault}
use Rattle.command_faults.specs.declared.faults.CommandFault.TheVariants as faults
use Rattle.hex.specs.Hex.{encode_lower}
use Rattle.json_looks.specs.Entries.{count_if, typed}
use Rattle.json_looks.specs.Missing.{beyond_items, misread_items, string_if}
use Rattle.json_looks.specs.Objects.{IsObjectPrinted, count}
use Rattle.json_looks.specs.Verdicts.{IsImageThere, found_place, found_text}
use Rattle.line_text.specs.bytes.Texts.{text_of}
use Rattle.serde_json.specs.Data.{Data, Members, array, member, no_members, null, object, string}
use Rattle.serde_json.specs.View.{items_of}
use Rattle.sha1.specs.Sha1.{sha1}
use Rattle.sha2.specs.Sha256.{sha256}

-- where the first file ends that is cut short, and where the first one does that has fewer blocks than its entry says
abbrev pub short_end : Option Shortfall → Option Place
short_end (Some (lacks.Short p)) = Some p
short_end _ = None

abbrev pub fewer_end : Option Shortfall → Option Place
fewer_end (Some (lacks.Fewer p)) = Some p
fewer_end _ = None

-- the members of a check from `name` on
abbrev pub late_with : (name sha1 sha256 verdict : List ℕ) → (size : ℕ) → Option Place → (short : Data) → Members
late_with name sha1 sha256 verdict size place short =
    member (codes "name") (string name)
    (member (codes "sector") (count_if (option_map (λ p. p.sector) place))
    (member (codes "sha1") (string sha1)
    (member (codes "sha256") (string sha256)
    (member (codes "short") short
    (member (codes "size") (count size)
    (member (codes "track") (count_if (option_map (λ p. p.track) place))
    (member (codes "verdict") (string verdict) no_members)))))))

-- the object of a check with these members: places past track 35, the disk's name, sectors that weren't read, where a file has fewer
-- blocks, names of files, free blocks, the disk's ID, and those
abbrev pub early_with : (disk id : List ℕ) → (free : ℕ) → (beyond errors names : List Data) → (fewer : Data) → (late : Members) → Data
early_with disk id free beyond errors names fewer late =
    object (member (codes "beyond") (array (items_of beyond))
    (member (codes "disk") (string disk)
    (member (codes "errors") (array (items_of errors))
    (member (codes "fewer") fewer
    (member (codes "files") (array (items_of names))
    (member (codes "free") (count free)
    (member (codes "id") (string id) late)))))))

-- an image of this name of which a check finds this, with the files that this concerns, the bytes of 18/0, what the files lack, and
-- what is drawn of it
abbrev pub check_data : (name image : List ℕ) → Option Fault → List Slot → Sector → Option Shortfall → Option Layout → Data
check_data name image found files bytes lack drawn =
    early_with (text_of (disk_name bytes)) (text_of (slice_range bytes 162 164)) (blocks_free bytes) (beyond_items image drawn)
    (misread_items image drawn) (map (λ s. typed (name_of s)) files) (string_if (option_map place_text (fewer_end lack)))
    (late_with name (encode_lower (sha1 image)) (encode_lower (sha256 image)) (found_text found) (length image) (found_place found)
    (string_if (option_map place_text (short_end lack))))

-- an image of this name and this size, if it is known, that is refused for this reason
abbrev pub unchecked_data : (name : List ℕ) → (size : Option ℕ) → (why : List ℕ) → Data
unchecked_data name size why =
    object (member (codes "beyond") (array (items_of []))
    (member (codes "disk") null
    (member (codes "errors") (array (items_of []))
    (member (codes "fewer") null
    (member (codes "files") (array (items_of []))
    (member (codes "free") null
    (member (codes "id") null
    (member (codes "name") (string name)
    (member (codes "sector") null
    (member (codes "sha1") null
    (member (codes "sha256") null
    (member (codes "short") null
    (member (codes "size") (count_if size)
    (member (codes "track") null
    (member (codes "verdict") (string why) no_members)))))))))))))))

-- what is drawn as the code holds it, unless the directory has a fault
abbrev pub drawn_if : Result Drawing Fault → Option Layout
drawn_if (Ok drawing) = Some (drawn_in drawing)
drawn_if (Err fault) = None

-- all is there that the image says of itself; which isn't known where nothing is drawn
abbrev pub IsAllDrawn : (image : List ℕ) → Option Layout → Type 0
IsAllDrawn image None = ⊥
IsAllDrawn image (Some l) = IsImageThere image l

-- an image was checked and printed as such an object, and this says whether the check finds no fault, and all is there
pub record IsCheckShown {W : Type 0} (contents : W → Option (List ℕ)) (name image : List ℕ) (old new : W) (whole : Bool) : Type 0 where
  pub size : IsImageSize (length image)
  pub found : Option Fault
  pub verdict : IsVerdict (sectors_in (disk_of image)) found
  pub files : List Slot
  pub concerned : AreFound (sectors_in (disk_of image)) found files
  pub lack : Option Shortfall
  pub lacks : IsShortfallOf (sectors_in (disk_of image)) lack
  pub drawn : Option Layout
  pub is_drawn : IsDrawnOf image drawn
  pub printed : IsObjectPrinted contents (check_data name image found files (map_in (disk_of image)) lack drawn) old new
  pub told : IsTrue whole ↔ (found ≡ None) × IsAllDrawn image drawn

-- why it wasn't: the image has none of the six sizes; or memory, or the output
abbrev pub IsCheckFault : (image : List ℕ) → CommandFault → Type 0
IsCheckFault image faults.ImageSize = ¬ (IsImageSize (length image))
IsCheckFault image faults.NoMemory = IsImageSize (length image)
IsCheckFault image faults.File = IsImageSize (length image)
IsCheckFault image _ = ⊥

-- an image was checked and printed as such a row: with as many sectors that weren't read, and as many places at which files go on past
-- track 35, as its object has. And this says whether the check finds no fault, and all is there
pub record IsRowShown {W : Type 0} (contents : W → Option (List ℕ)) (name image : List ℕ) (old new : W) (whole : Bool) : Type 0 where
  pub size : IsImageSize (length image)
  pub found : Option Fault
  pub verdict : IsVerdict (sectors_in (disk_of image)) found
  pub lack : Option Shortfall
  pub lacks : IsShortfallOf (sectors_in (disk_of image)) lack
  pub drawn : Option Layout
  pub is_drawn : IsDrawnOf image drawn
  pub printed : Appends (contents old) (contents new) (row_as_is name found (map_in (disk_of image)) lack image
      (length (misread_items image drawn)) (length (beyond_items image drawn)))
  pub told : IsTrue whole ↔ (found ≡ None) × IsAllDrawn image drawn
