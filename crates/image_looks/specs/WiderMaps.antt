-- Maps of tracks 36 to 40 in 18/0 of longer images (the D64 layout: SpeedDOS, DolphinDOS and PrologicDOS). The lines are our own.
use Rattle.std.specs.Prelude.{ℕ, ◌+◌, ◌&&◌, ◌||◌, ◌++◌, Bool, List, [], codes, if◌then◌else◌, length, nat_eq, nat_le, nat_lt, slice_index}
use Rattle.std.specs.Int.RustNames.{count_ones}

-- a byte of 18/0, which begins after 357 sectors
abbrev pub byte_at : (image : List ℕ) → ℕ → ℕ
byte_at image i = slice_index image (91392 + i)

-- The four bytes from i on are the entry of a track with 17 sectors, as those of tracks 1 to 35: how many are free, and a bit for
-- each. In 11 FF FF 01 all are
unfoldable pub is_entry : (image : List ℕ) → ℕ → Bool
is_entry image i = nat_le (byte_at image (i + 3)) 1 && nat_eq (byte_at image i)
    (count_ones (byte_at image (i + 1)) + count_ones (byte_at image (i + 2)) + count_ones (byte_at image (i + 3)))

-- so are the five entries from i on
unfoldable pub are_entries : (image : List ℕ) → ℕ → Bool
are_entries image i = is_entry image i && (is_entry image (i + 4) && (is_entry image (i + 8)
    && (is_entry image (i + 12) && is_entry image (i + 16))))

-- a sector is free by one of them
unfoldable pub has_free : (image : List ℕ) → ℕ → Bool
has_free image i = nat_lt 0 (byte_at image i) || (nat_lt 0 (byte_at image (i + 4)) || (nat_lt 0 (byte_at image (i + 8))
    || (nat_lt 0 (byte_at image (i + 12)) || nat_lt 0 (byte_at image (i + 16)))))

-- a map of tracks 36 to 40 stands there. Bytes that are all 0 aren't taken for one
abbrev pub is_map : (image : List ℕ) → ℕ → Bool
is_map image i = are_entries image i && has_free image i

-- a line that is printed, or isn't
abbrev pub line_if : Bool → List ℕ → List ℕ
line_if is line = if is then line else []

-- the lines of an image that has these tracks: DolphinDOS keeps the map from byte AC on, SpeedDOS from C0 on, PrologicDOS from 90 on
unfoldable pub lines_of : (image : List ℕ) → List ℕ
lines_of image =
    line_if (is_map image 172) (codes "DOLPHINDOS 36-40\n")
    ++ (line_if (is_map image 192) (codes "SPEEDDOS 36-40\n")
    ++ line_if (is_map image 144) (codes "PROLOGICDOS 36-40\n"))

-- an image with fewer tracks has none
abbrev pub maps_text : (image : List ℕ) → List ℕ
maps_text image = if nat_lt (length image) 196608 then [] else lines_of image
