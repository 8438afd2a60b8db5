-- What is printed of an image that may have more tracks, or error bytes. Our own, except the error bytes (the D64
-- layout).
use Rattle.std.specs.Prelude.{◌≡◌, ◌⊎◌, ◌↔◌, ℕ, ◌+◌, ◌-◌, ◌*◌, ◌&&◌, Bool, false, IsTrue, List, [], ◌++◌, None, Option, Some}
use Rattle.std.specs.Prelude.{codes, decimal, flat_map, if◌then◌else◌, length, nat_eq, nat_le, option_map, slice_get, slice_index, take}
use Rattle.std.specs.Io.KnownBytes.{Appends}
use Rattle.d64_image.specs.Memory.{sectors_in}
use Rattle.d64_image.specs.Places.{index_of}
use Rattle.d64_image.specs.declared.place.Place.{Place}
use Rattle.disk_layout.specs.Fault.{HoldsOfDirectory, nowhere}
use Rattle.disk_layout.specs.Layout.{File, Layout, is_rel}
use Rattle.disk_layout.specs.Texts.{fault_text, place_text}
use Rattle.disk_layout.specs.declared.faults.Fault.{Fault}
use Rattle.disk_layout.specs.declared.slot.Slot.{Slot}
use Rattle.line_text.specs.bytes.Texts.{text_of}
use Rattle.damaged_files.specs.reached.Sizes.{IsImageSize, error_of}
use Rattle.disk_pictures.specs.Drawings.{IsDrawn, owner_of}
use Rattle.damaged_files.specs.reached.Names.{name_of}
use Rattle.disk_pictures.specs.Pictures.{each_place}
use Rattle.disk_pictures.specs.declared.owners.Owner.{Owner}
use Rattle.disk_pictures.specs.declared.owners.Owner.TheVariants as owners
use Rattle.command_faults.specs.declared.faults.CommandFault.{CommandFault}
use Rattle.command_faults.specs.declared.faults.CommandFault.TheVariants as faults

-- the drive's number of an error byte: 5 is error 23, and 15 is 74; another byte is printed itself
abbrev pub error_number : ℕ → List ℕ
error_number e =
    if nat_le 2 e && nat_le e 11 then decimal (e + 18)
    else (if nat_eq e 15 then codes "74" else codes "BYTE " ++ decimal e)

-- the entry that has the sector, if this is drawn
abbrev pub entry_of : Layout → Owner → Option Slot
entry_of l (owners.Blocks k) = option_map (λ f. f.slot) (slice_get l.files k)
entry_of l (owners.Sides k) = option_map (λ f. f.slot) (slice_get l.files k)
entry_of l _ = None

abbrev pub entry_at : Option Layout → Place → Option Slot
entry_at None p = None
entry_at (Some l) p = entry_of l (owner_of l p)

-- its name, in quotation marks after a space
abbrev pub name_text : Option Slot → List ℕ
name_text None = []
name_text (Some s) = codes " \"" ++ (text_of (name_of s) ++ codes "\"")

-- the line of a sector that wasn't read, with the entry that has it: ERROR 23 17/4 "NAME"
abbrev pub error_line : Place → Option Slot → Option ℕ → List ℕ
error_line p entry None = []
error_line p entry (Some e) =
    codes "ERROR " ++ (error_number e ++ (codes " " ++ (place_text p ++ (name_text entry ++ codes "\n"))))

-- those of all sectors of tracks 1 to 35
abbrev pub errors_text : List ℕ → Option Layout → List ℕ
errors_text image drawn = each_place (λ p. error_line p (entry_at drawn p) (error_of image p))

-- a track from 36 to 42
abbrev pub is_past : ℕ → Bool
is_past t = nat_le 36 t && nat_le t 42

-- where a chain goes on past track 35: at its last sector, or at its entry's, whose byte i has the first track
abbrev pub past_from : List ℕ → Slot → ℕ → Option Place → Option Place
past_from image s i None = if is_past (slice_index s.bytes i) then Some s.sector else None
past_from image s i (Some p) = if is_past (slice_index image (256 * index_of p)) then Some p else None

-- the last of these sectors
abbrev pub end_of : List Place → Option Place
end_of ps = slice_get ps (length ps - 1)

-- where the blocks of what is drawn of an entry go on past track 35
abbrev pub blocks_past : List ℕ → File → Option Place
blocks_past image f = past_from image f.slot 3 (end_of f.blocks)

-- where its side sectors do
abbrev pub sides_past : List ℕ → File → Option Place
sides_past image f = if is_rel f.slot then past_from image f.slot 21 (end_of f.sides) else None

-- the line of a file that goes on past track 35, and the sector whose link leads there: BEYOND 17/4 "NAME"
abbrev pub past_line : Slot → Option Place → List ℕ
past_line s None = []
past_line s (Some p) =
    codes "BEYOND " ++ (place_text p ++ (codes " \"" ++ (text_of (name_of s) ++ codes "\"\n")))

-- the lines of a file that goes on there
abbrev pub file_text : List ℕ → File → List ℕ
file_text image f = past_line f.slot (blocks_past image f) ++ past_line f.slot (sides_past image f)

-- what is printed of an image with this drawn: its sectors that weren't read, and its files that go on past track 35
unfoldable pub trim_text : List ℕ → Layout → List ℕ
trim_text image l = errors_text image (Some l) ++ flat_map (file_text image) l.files

-- the line of a directory that can't be read
abbrev pub layout_line : Fault → List ℕ
layout_line fault = codes "LAYOUT " ++ (fault_text fault ++ codes "\n")

-- no part of the file is past track 35
abbrev pub IsFileWhole : List ℕ → File → Type 0
IsFileWhole image f = (blocks_past image f ≡ None) × (sides_past image f ≡ None)

-- nor of any of these
abbrev pub AreFilesWhole : List ℕ → List File → Type 0
AreFilesWhole image fs = (k : ℕ) (f : File) → slice_get fs k ≡ Some f → IsFileWhole image f

-- everything that the image says of its sectors and files is there
pub record IsAllThere (image : List ℕ) (l : Layout) : Type 0 where
  pub read : (p : Place) → error_of image p ≡ None
  pub files : AreFilesWhole image l.files

-- what was printed: the sectors and files, or why the directory can't be read
abbrev pub IsTrimTold : {E : Type 0} → (E → Option (List ℕ)) → List ℕ → E → E → Bool → Type 0
IsTrimTold told image err new_err whole =
    ((l : Layout) × IsDrawn (sectors_in (take 174848 image)) l
    × Appends (told err) (told new_err) (trim_text image l) × (IsTrue whole ↔ IsAllThere image l))
    ⊎ ((fault : Fault) × HoldsOfDirectory nowhere (sectors_in (take 174848 image)) fault
    × Appends (told err) (told new_err) (errors_text image None ++ layout_line fault) × (whole ≡ false))

-- tracks 1 to 35 of the image were printed, and what isn't there was listed
pub record IsTrimmed {W E : Type 0} (contents : W → Option (List ℕ)) (told : E → Option (List ℕ)) (image : List ℕ)
    (old new : W) (err new_err : E) (whole : Bool) : Type 0 where
  pub size : IsImageSize (length image)
  pub printed : Appends (contents old) (contents new) (take 174848 image)
  pub reported : IsTrimTold told image err new_err whole

-- why they weren't: the size is none of the four; or memory or an output failed
abbrev pub IsTrimFault : {W E : Type 0} → List ℕ → W → W → E → E → CommandFault → Type 0
IsTrimFault image old new err new_err faults.ImageSize =
    ¬ (IsImageSize (length image)) × (new ≡ old) × (new_err ≡ err)
IsTrimFault image old new err new_err faults.NoMemory =
    IsImageSize (length image) × (new ≡ old) × (new_err ≡ err)
IsTrimFault image old new err new_err faults.File = IsImageSize (length image)
IsTrimFault image old new err new_err _ = ⊥
