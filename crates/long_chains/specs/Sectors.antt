-- The sectors of an image of 35, 40 or 42 tracks, each named by how many come before it (the D64 layout).
use Rattle.std.specs.Prelude.{◌<◌, ℕ, ◌+◌, ◌*◌, ◌-◌, ◌/◌, ◌%◌, ◌&&◌, ◌||◌, Bool, List, None, Option, Some}
use Rattle.std.specs.List.{range_with_len}
use Rattle.std.specs.Option.{is_some}
use Rattle.std.specs.Prelude.{filter, if◌then◌else◌, length, nat_eq, nat_le, nat_lt, slice_get}
use Rattle.d64_image.specs.Places.{index_of, place_at}
use Rattle.d64_image.specs.declared.place.Place.{Place}

-- how many sectors an image of this many bytes has, with an error byte for each or without: those of 35, 40 or 42 tracks
unfoldable pub sectors_in : (size : ℕ) → ℕ
sectors_in n =
    if nat_eq n 174848 || nat_eq n 175531 then 683
    else (if nat_eq n 196608 || nat_eq n 197376 then 768
    else (if nat_eq n 205312 || nat_eq n 206114 then 802 else 0))

-- the image has more tracks than 35
abbrev pub has_more_tracks : (image : List ℕ) → Bool
has_more_tracks image = nat_lt 683 (sectors_in (length image))

-- the image has a sector of this number
abbrev pub HasSector : (image : List ℕ) → (number : ℕ) → Type 0
HasSector image n = n < sectors_in (length image)

-- a sector of the tracks 36 to 42, which have 17 each
abbrev pub number_past : (track sector : ℕ) → Option ℕ
number_past track sector =
    if nat_le 36 track && (nat_le track 42 && nat_lt sector 17) then Some (683 + 17 * (track - 36) + sector) else None

-- a sector of any of the tracks 1 to 42, of which this place is the one on tracks 1 to 35, if it is on these
abbrev pub number_of : (track sector : ℕ) → Option Place → Option ℕ
number_of track sector (Some p) = Some (index_of p)
number_of track sector None = number_past track sector

-- it, if there are that many sectors
abbrev pub if_below : (count : ℕ) → Option ℕ → Option ℕ
if_below count None = None
if_below count (Some n) = if nat_lt n count then Some n else None

-- the sector of this track and number, if the image has it
abbrev pub sector_at : (image : List ℕ) → (track sector : ℕ) → Option ℕ
sector_at image track sector =
    if_below (sectors_in (length image)) (number_of track sector (place_at track sector))

-- an error byte: 1 means that the sector was read
abbrev pub reading_error : Option ℕ → Option ℕ
reading_error None = None
reading_error (Some e) = if nat_eq e 1 then None else Some e

-- the error byte of a sector, if the image has error bytes and it isn't 1: they come after all sectors
abbrev pub error_in : (image : List ℕ) → (number : ℕ) → Option ℕ
error_in image n =
    if nat_eq (length image) 175531 then reading_error (slice_get image (174848 + n))
    else (if nat_eq (length image) 197376 then reading_error (slice_get image (196608 + n))
    else (if nat_eq (length image) 206114 then reading_error (slice_get image (205312 + n)) else None))

-- the sector wasn't read
abbrev pub is_misread : (image : List ℕ) → (number : ℕ) → Bool
is_misread image n = is_some (error_in image n)

-- the sectors of tracks 36 to 42 that weren't read: of 119 sectors after 683 others
unfoldable pub misread_past : (image : List ℕ) → List ℕ
misread_past image = filter (is_misread image) (range_with_len 683 119)

-- the track of a sector past track 35, and its number there
abbrev pub track_past : (number : ℕ) → ℕ
track_past n = 36 + (n - 683) / 17

abbrev pub sector_past : (number : ℕ) → ℕ
sector_past n = (n - 683) % 17
