-- Directory art: entries that show a line in a listing, and no file. Our own.
use Rattle.std.specs.Prelude.{◌&&◌, ◌||◌, Bool, nat_eq, slice_index}
use Rattle.disk_layout.specs.Directory.{type_byte}
use Rattle.disk_layout.specs.Layout.{count_field}
use Rattle.disk_layout.specs.declared.slot.Slot.{Slot}

-- the entry's first block is none, or 18/0, which is the map's
abbrev pub starts_nowhere : Slot → Bool
starts_nowhere s =
    nat_eq (slice_index s.bytes 3) 0 || (nat_eq (slice_index s.bytes 3) 18 && nat_eq (slice_index s.bytes 4) 0)

-- the entry is a DEL, closed or locked, that counts no blocks and has none of its own
abbrev pub is_art : Slot → Bool
is_art s =
    (nat_eq (type_byte s) 128 || nat_eq (type_byte s) 192) && (nat_eq (count_field s) 0 && starts_nowhere s)
