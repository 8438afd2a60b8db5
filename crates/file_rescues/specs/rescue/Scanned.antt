-- Sectors of track 18 that look like those of a directory (1541 User's Guide, directory format). Our own.
use Rattle.std.specs.Prelude.{ℕ, zero, suc, ◌+◌, ◌%◌, ◌&&◌, Bool, false, true, List, [], ◌∷◌, ◌++◌, None, Option, Some}
use Rattle.std.specs.Prelude.{if◌then◌else◌, nat_eq, nat_le, not, slice_index}
use Rattle.std.specs.List.{list_all, list_any}
use Rattle.std.specs.Option.{is_some}
use Rattle.d64_image.specs.Images.{Image, Sector, sector}
use Rattle.d64_image.specs.Places.{index_of, place_at}
use Rattle.d64_image.specs.declared.place.Place.{Place}
use Rattle.disk_layout.specs.Chain.{named_at}
use Rattle.disk_layout.specs.Directory.{is_used, slots_in, type_byte}
use Rattle.disk_layout.specs.Layout.{is_rel_type}
use Rattle.disk_layout.specs.declared.slot.Slot.{Slot}

-- the first two bytes end a directory, or link to one of its sectors: 18/1 to 18/18
abbrev pub has_directory_link : Sector → Bool
has_directory_link bytes =
    if nat_eq (slice_index bytes 0) 0 then nat_eq (slice_index bytes 1) 255
    else (nat_eq (slice_index bytes 0) 18 && (nat_le 1 (slice_index bytes 1) && nat_le (slice_index bytes 1) 18))

-- a drive may have written the slot: its type is 0; or it is DEL to REL, closed or not, and it names a first block, or
-- needs none and has 0 there
abbrev pub is_slot : Slot → Bool
is_slot s =
    if nat_eq (type_byte s) 0 then true
    else (if nat_le (type_byte s % 32) 4 then
    (if nat_eq (slice_index s.bytes 3) 0 then not (is_rel_type (type_byte s)) else is_some (named_at s.bytes 3))
    else false)

-- the sector at p, which holds these bytes, looks like one of a directory: it has such a link, such slots, and an entry
abbrev pub is_directory_like : Place → Sector → Bool
is_directory_like p bytes =
    has_directory_link bytes && (list_all is_slot (slots_in p bytes) && list_any is_used (slots_in p bytes))

-- the sector is among these
abbrev pub is_among : Place → List Place → Bool
is_among p ps = list_any (λ q. nat_eq (index_of q) (index_of p)) ps

-- these sectors, and another one after them, if it looks like one of a directory and isn't among them
abbrev pub with_next : Image → List Place → Option Place → List Place
with_next img ps None = ps
with_next img ps (Some p) =
    if is_among p ps then ps else (if is_directory_like p (sector img p) then ps ++ p ∷ [] else ps)

-- these sectors, and after them those of 18/1 to 18/n, in this order
abbrev pub with_scanned : Image → List Place → ℕ → List Place
with_scanned img ps zero = ps
with_scanned img ps (suc n) = with_next img (with_scanned img ps n) (place_at 18 (n + 1))
