-- Which entries are those of files of GEOS, and what they say (GEOS: directory entries). The bounds on structure and type are
-- our own, so that few entries of others are taken for such.
use Rattle.std.specs.Prelude.{◌&&◌, ◌||◌, Bool, None, Option, Some, if◌then◌else◌, nat_eq, nat_le, not, slice_index}
use Rattle.d64_image.specs.declared.place.Place.{Place}
use Rattle.disk_layout.specs.Chain.{named_at}
use Rattle.disk_layout.specs.Directory.{type_byte}
use Rattle.disk_layout.specs.declared.slot.Slot.{Slot}
use Rattle.geos_files.specs.declared.entries.GeosEntry.{GeosEntry}

-- a closed SEQ, PRG or USR, locked or not
abbrev pub is_closed_plain : Slot → Bool
is_closed_plain s = (nat_le 129 (type_byte s) && nat_le (type_byte s) 131)
    || (nat_le 193 (type_byte s) && nat_le (type_byte s) 195)

-- byte 23 is 0 (one chain) or 1 (records, VLIR), and byte 24 is a type of GEOS, from 1 to 15
abbrev pub has_geos_type : Slot → Bool
has_geos_type s =
    nat_le (slice_index s.bytes 23) 1 && (nat_le 1 (slice_index s.bytes 24) && nat_le (slice_index s.bytes 24) 15)

-- bytes 21 and 22 are bytes 3 and 4
abbrev pub names_one_block : Slot → Bool
names_one_block s =
    nat_eq (slice_index s.bytes 21) (slice_index s.bytes 3) && nat_eq (slice_index s.bytes 22) (slice_index s.bytes 4)

-- the entry's type and its bytes 21 to 24 are those of a file of GEOS, whose info block isn't its first block
abbrev pub is_like_geos : Slot → Bool
is_like_geos s = is_closed_plain s && (has_geos_type s && not (names_one_block s))

-- an entry that names this info block, and this first block
abbrev pub naming_first : (has_records : Bool) → (info : Place) → Option Place → Option GeosEntry
naming_first has_records info None = None
naming_first has_records info (Some first) = Some (record { info = info; first = first; has_records = has_records })

abbrev pub naming_both : (has_records : Bool) → Option Place → Option Place → Option GeosEntry
naming_both has_records None first = None
naming_both has_records (Some info) first = naming_first has_records info first

-- what the entry says of its file, if it is one of GEOS
unfoldable pub geos_entry : Slot → Option GeosEntry
geos_entry s =
    if is_like_geos s then naming_both (nat_eq (slice_index s.bytes 23) 1) (named_at s.bytes 21) (named_at s.bytes 3)
    else None
