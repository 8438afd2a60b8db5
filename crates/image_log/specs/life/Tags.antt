-- What an image says while a service has a log beside it. Our own: docs/LOG.md has it to the byte.
use Rattle.std.specs.Prelude.{ℕ, zero, suc, ◌<◌, ◌≡◌, ◌≢◌, ◌+◌, ◌==◌, ◌⊎◌, Bool, List, [], codes, false, if◌then◌else◌, length, slice_index, slice_index_or, slice_set, true}
use Rattle.d64_image.specs.Images.{Image}
use Rattle.d64_image.specs.Memory.{sectors_in}

-- the tag, at the end of sector 18/0
abbrev pub tag : List ℕ
tag = codes "LOG AWAY"

-- Each of a sector's last eight bytes is 0, or the tag's. A write of the tag, or of zeros over it, that is cut off leaves
-- this.
abbrev pub HasTagRoom : (sector : List ℕ) → Type 0
HasTagRoom sector = (j : ℕ) → j < 8
    → (slice_index sector (248 + j) ≡ 0) ⊎ (slice_index sector (248 + j) ≡ slice_index tag j)

-- all of them are 0
abbrev pub HasNoTag : (sector : List ℕ) → Type 0
HasNoTag sector = (j : ℕ) → j < 8 → slice_index sector (248 + j) ≡ 0

-- none of them is the tag's
abbrev pub LacksLetters : (sector : List ℕ) → Type 0
LacksLetters sector = (j : ℕ) → j < 8 → slice_index sector (248 + j) ≢ slice_index tag j

-- this one is neither
abbrev pub LacksRoomAt : (sector : List ℕ) (j : ℕ) → Type 0
LacksRoomAt sector j = (slice_index sector (248 + j) ≢ 0) × (slice_index sector (248 + j) ≢ slice_index tag j)

-- a sector has the tag, or a part of it
abbrev pub IsTagged : (sector : List ℕ) → Type 0
IsTagged sector = HasTagRoom sector × ¬ (HasNoTag sector)

-- it has that, if it has room for it
abbrev pub IsTaggedIfRoom : (sector : List ℕ) → Type 0
IsTaggedIfRoom sector = HasTagRoom sector → IsTagged sector

-- an image has the tag
abbrev pub HasTag : Image → Type 0
HasTag image = IsTagged (slice_index_or image 357 [])

-- an image says that its log has the rest of it
abbrev pub SaysLogAway : (image : List ℕ) → Type 0
SaysLogAway image = (length image ≡ 174848) × HasTag (sectors_in image)

-- whether the first n of the last eight are 0, or the tag's
abbrev pub has_room : (sector : List ℕ) → ℕ → Bool
has_room sector zero = true
has_room sector (suc n) =
    if slice_index sector (248 + n) == 0 then has_room sector n
    else (if slice_index sector (248 + n) == slice_index tag n then has_room sector n else false)

-- whether one of them isn't 0
abbrev pub has_letter : (sector : List ℕ) → ℕ → Bool
has_letter sector zero = false
has_letter sector (suc n) = if slice_index sector (248 + n) == 0 then has_letter sector n else true

-- the sector with 0 in the place of them
abbrev pub blanked : (sector : List ℕ) → ℕ → List ℕ
blanked sector zero = sector
blanked sector (suc n) = slice_set (blanked sector n) (248 + n) 0

-- the sector without its tag, if it has one
abbrev pub untagged : (sector : List ℕ) → List ℕ
untagged sector = if has_room sector 8 then (if has_letter sector 8 then blanked sector 8 else sector) else sector

-- an image without it
abbrev pub untagged_image : Image → Image
untagged_image image = slice_set image 357 (untagged (slice_index_or image 357 []))
