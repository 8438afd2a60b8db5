-- Blocks of a file that a drive couldn't read (the D64 layout: an error byte for each sector). What is printed of them is our own.
use Rattle.std.specs.Prelude.{ℕ, ◌+◌, ◌&&◌, Bool, List, [], ◌∷◌, ◌++◌, None, Option, Some}
use Rattle.std.specs.Prelude.{codes, decimal, filter, flat_map, if◌then◌else◌, nat_eq, nat_le}
use Rattle.std.specs.Option.{is_some}
use Rattle.d64_image.specs.declared.place.Place.{Place}
use Rattle.damaged_files.specs.reached.Sizes.{error_of}
use Rattle.disk_layout.specs.Texts.{place_text}
use Rattle.long_chains.specs.Sectors.{error_in, sector_past, track_past}
use Rattle.file_rescues.specs.declared.rescue.rescuing.Rescued.{Rescued}
use Rattle.file_rescues.specs.rescue.Art.{is_art}

-- the drive's number of an error byte: 5 is error 23, and 15 is 74; another byte is printed itself
abbrev pub error_number : ℕ → List ℕ
error_number e =
    if nat_le 2 e && nat_le e 11 then decimal (e + 18)
    else (if nat_eq e 15 then codes "74" else codes "BYTE" ++ decimal e)

-- a block, and how it wasn't read: 17/4:23
abbrev pub place_error_text : Place → Option ℕ → List ℕ
place_error_text p None = []
place_error_text p (Some e) = place_text p ++ (codes ":" ++ error_number e)

abbrev pub misread_text : (image : List ℕ) → Place → List ℕ
misread_text image p = place_error_text p (error_of image p)

-- the same of a sector past track 35
abbrev pub past_error_text : (number : ℕ) → Option ℕ → List ℕ
past_error_text n None = []
past_error_text n (Some e) = decimal (track_past n) ++ (codes "/" ++ (decimal (sector_past n) ++ (codes ":" ++ error_number e)))

abbrev pub misread_past_text : (image : List ℕ) → (number : ℕ) → List ℕ
misread_past_text image n = past_error_text n (error_in image n)

-- several of them, each after a space
abbrev pub more_errors : (image : List ℕ) → List Place → List ℕ
more_errors image ps = flat_map (λ p. codes " " ++ misread_text image p) ps

abbrev pub more_past : (image : List ℕ) → (numbers : List ℕ) → List ℕ
more_past image ns = flat_map (λ n. codes " " ++ misread_past_text image n) ns

-- those of tracks 1 to 35, and then those past these, with a space between two
abbrev pub errors_text : (image : List ℕ) → List Place → (past : List ℕ) → List ℕ
errors_text image [] [] = []
errors_text image [] (n ∷ ns) = misread_past_text image n ++ more_past image ns
errors_text image (p ∷ ps) ns = misread_text image p ++ (more_errors image ps ++ more_past image ns)

-- the block wasn't read
abbrev pub is_misread : (image : List ℕ) → Place → Bool
is_misread image p = is_some (error_of image p)

-- those blocks of a file that weren't read; none of directory art, which has no file
abbrev pub misread_in : (image : List ℕ) → Rescued → List Place
misread_in image f = if is_art f.slot then [] else filter (is_misread image) f.blocks.items

-- the sector is past track 35, and wasn't read
abbrev pub is_misread_past : (image : List ℕ) → (number : ℕ) → Bool
is_misread_past image n = nat_le 683 n && is_some (error_in image n)

-- those sectors of a file that goes on past track 35
abbrev pub misread_past : (image : List ℕ) → Rescued → List ℕ
misread_past image f = if is_art f.slot then [] else filter (is_misread_past image) f.sectors.items

-- what the index says of them
abbrev pub errors_of : (image : List ℕ) → Rescued → List ℕ
errors_of image f = errors_text image (misread_in image f) (misread_past image f)
