-- Sizes of images, and how each sector was read (the D64 layout: 35, 40 or 42 tracks, error bytes or none).
use Rattle.std.specs.Prelude.{◌≡◌, ℕ, ◌+◌, Bool, List, None, Option, Some, if◌then◌else◌, length, nat_eq, slice_index, take, true}
use Rattle.d64_image.specs.Places.{index_of}
use Rattle.d64_image.specs.declared.place.Place.{Place}

-- 683 sectors of 256 bytes on 35 tracks, 768 on 40, 802 on 42; and with one byte more for each sector
abbrev pub is_image_size : ℕ → Bool
is_image_size n =
    if nat_eq n 174848 then true else
    (if nat_eq n 175531 then true else
    (if nat_eq n 196608 then true else
    (if nat_eq n 197376 then true else
    (if nat_eq n 205312 then true else nat_eq n 206114))))

abbrev pub IsImageSize : ℕ → Type 0
IsImageSize n = is_image_size n ≡ true

-- the disk of 35 tracks in an image of one of these sizes; any other file is taken as it is
abbrev pub disk_of : List ℕ → List ℕ
disk_of image = if is_image_size (length image) then take 174848 image else image

-- an error byte: 1 means that the sector was read
abbrev pub reading_error : ℕ → Option ℕ
reading_error e = if nat_eq e 1 then None else Some e

-- the error byte of the sector at p, if the image has error bytes and it isn't 1: they come after all sectors
abbrev pub error_of : List ℕ → Place → Option ℕ
error_of image p =
    if nat_eq (length image) 175531 then reading_error (slice_index image (174848 + index_of p))
    else (if nat_eq (length image) 197376 then reading_error (slice_index image (196608 + index_of p))
    else (if nat_eq (length image) 206114 then reading_error (slice_index image (205312 + index_of p)) else None))
