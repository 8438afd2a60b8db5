-- What is printed of a disk that isn't checked: its free blocks, and a sector with its owner. Our own.
use Rattle.std.specs.Prelude.{◌≡◌, ◌≢◌, ◌⊎◌, Bool, ℕ, ◌+◌, ◌*◌, ◌/◌, ◌%◌, List, [], ◌∷◌, ◌++◌, None, Option, Some, codes, decimal}
use Rattle.std.specs.Prelude.{flat_map, if◌then◌else◌, length, nat_eq, slice_get, slice_index, slice_range}
use Rattle.std.specs.Char.{encode_utf8}
use Rattle.std.specs.Io.KnownBytes.{Appends}
use Rattle.d64_image.specs.Images.{Sector, sector}
use Rattle.d64_image.specs.Memory.{sectors_in}
use Rattle.d64_image.specs.Places.{place_at}
use Rattle.d64_image.specs.declared.place.Place.{Place}
use Rattle.disk_layout.specs.Fault.{HoldsOfDirectory, nowhere}
use Rattle.disk_layout.specs.Layout.{File, Layout}
use Rattle.disk_layout.specs.Map.{map_count}
use Rattle.disk_layout.specs.Texts.{fault_text}
use Rattle.disk_layout.specs.View.{blocks_free}
use Rattle.disk_layout.specs.declared.faults.Fault.{Fault}
use Rattle.line_text.specs.petscii.Characters.{character_of, hex_digit}
use Rattle.line_text.specs.declared.petscii.characters.CharacterSet.TheVariants.{Graphics}
use Rattle.disk_pictures.specs.Drawings.{IsDrawn, owner_of}
use Rattle.disk_pictures.specs.Maps.{entry_line, is_wide}
use Rattle.disk_pictures.specs.Outcomes.{map_in}
use Rattle.disk_pictures.specs.Texts.{each_below, is_free}
use Rattle.command_faults.specs.declared.faults.CommandFault.{CommandFault}
use Rattle.command_faults.specs.declared.faults.CommandFault.TheVariants as faults
use Rattle.disk_pictures.specs.declared.owners.Owner.{Owner}
use Rattle.disk_pictures.specs.declared.owners.Owner.TheVariants as owner

-- the line of a track: TRACK 17 FREE 21
abbrev pub free_line : ℕ → ℕ → List ℕ
free_line t n = codes "TRACK " ++ (decimal t ++ (codes " FREE " ++ (decimal n ++ codes "\n")))

-- the last line, as a listing has it: 664 BLOCKS FREE
abbrev pub free_total : ℕ → List ℕ
free_total n = decimal n ++ codes " BLOCKS FREE\n"

-- the free sectors of each track by the map, and those for data of all together
unfoldable pub free_text : Sector → List ℕ
free_text map = each_below 35 (λ b. free_line (b + 1) (map_count map (b + 1))) ++ free_total (blocks_free map)

-- a byte's two digits, after a blank
abbrev pub code_text : ℕ → List ℕ
code_text b = 32 ∷ hex_digit (b / 16) ∷ hex_digit (b % 16) ∷ []

-- a character that a byte has, in UTF-8; a full stop stands for a control code
abbrev pub shown_or_stop : Option ℕ → List ℕ
shown_or_stop (Some c) = encode_utf8 c
shown_or_stop None = 46 ∷ []

-- what a C64 shows for a byte after it was switched on
abbrev pub byte_sign : ℕ → List ℕ
byte_sign b = shown_or_stop (character_of Graphics b)

-- sixteen bytes, of which the first has this number times sixteen: its number, the bytes, and their characters
unfoldable pub bytes_line : ℕ → List ℕ → List ℕ
bytes_line n bytes =
    hex_digit (n % 16) ∷ 48 ∷ 32 ∷ (flat_map code_text bytes ++ (codes "  " ++ (flat_map byte_sign bytes ++ codes "\n")))

-- the bytes of a sector, sixteen in a line
unfoldable pub bytes_text : Sector → List ℕ
bytes_text bytes = each_below 16 (λ n. bytes_line n (slice_range bytes (16 * n) (16 * n + 16)))

-- the line of an entry, if there is one
abbrev pub line_if : Bool → ℕ → Option File → List ℕ
line_if wide k None = codes "\n"
line_if wide k (Some f) = entry_line wide k f

-- whose the sector is: of an entry its line in the map
abbrev pub owner_text : Sector → Layout → Place → Owner → List ℕ
owner_text map l p owner.Map = codes "OWNER MAP\n"
owner_text map l p owner.Directory = codes "OWNER DIRECTORY\n"
owner_text map l p (owner.Blocks k) = codes "OWNER BLOCK " ++ line_if (is_wide l) k (slice_get l.files k)
owner_text map l p (owner.Sides k) = codes "OWNER SIDE " ++ line_if (is_wide l) k (slice_get l.files k)
owner_text map l p owner.Nobody = if is_free map p then codes "OWNER NONE, FREE\n" else codes "OWNER NONE, TAKEN\n"

-- where the link of a sector leads: to a sector, or nowhere, since the disk hasn't that one
abbrev pub next_text : Option Place → ℕ → ℕ → List ℕ
next_text (Some _) t s = codes "LINK " ++ (decimal t ++ (codes "/" ++ (decimal s ++ codes "\n")))
next_text None t s = codes "LINK OFF THE DISK " ++ (decimal t ++ (codes "/" ++ (decimal s ++ codes "\n")))

-- and if the chain ends here, the number of its last byte
abbrev pub link_text : ℕ → ℕ → List ℕ
link_text t s = if nat_eq t 0 then codes "LINK END " ++ (decimal s ++ codes "\n") else next_text (place_at t s) t s

-- a sector, what this says of its owner, and its link
unfoldable pub sector_text : Sector → List ℕ → List ℕ
sector_text bytes owned = bytes_text bytes ++ (owned ++ link_text (slice_index bytes 0) (slice_index bytes 1))

-- the sector of an image whose directory can be read, with its owner in what is drawn
abbrev pub owned_text : List ℕ → Place → Layout → List ℕ
owned_text image p l = sector_text (sector (sectors_in image) p) (owner_text (map_in image) l p (owner_of l p))

-- what is printed of the owner if the directory can't be read for this fault
abbrev pub unknown_owner : Fault → List ℕ
unknown_owner fault = codes "OWNER UNKNOWN, LAYOUT " ++ (fault_text fault ++ codes "\n")

-- the sector of one whose directory can't
abbrev pub unowned_text : List ℕ → Place → Fault → List ℕ
unowned_text image p fault = sector_text (sector (sectors_in image) p) (unknown_owner fault)

-- the image's sector was printed, with its owner as the map draws it; or the directory isn't a chain on track 18
pub record IsSectorPrinted {W : Type 0} (contents : W → Option (List ℕ)) (image : List ℕ) (p : Place) (old new : W) :
    Type 0
  where
    pub size : length image ≡ 174848
    pub printed :
        ((l : Layout) × IsDrawn (sectors_in image) l × Appends (contents old) (contents new) (owned_text image p l))
        ⊎ ((fault : Fault) × HoldsOfDirectory nowhere (sectors_in image) fault
        × Appends (contents old) (contents new) (unowned_text image p fault))

-- the image's free blocks were printed
pub record AreFreePrinted {W : Type 0} (contents : W → Option (List ℕ)) (image : List ℕ) (old new : W) : Type 0 where
  pub size : length image ≡ 174848
  pub printed : Appends (contents old) (contents new) (free_text (map_in image))

-- why they aren't: the image's size, the output, or memory
abbrev pub IsViewFault : List ℕ → CommandFault → Type 0
IsViewFault image faults.ImageSize = length image ≢ 174848
IsViewFault image faults.NoMemory = length image ≡ 174848
IsViewFault image faults.File = length image ≡ 174848
IsViewFault image _ = ⊥
