-- Entries that were deleted (1541 User's Guide: a scratch sets an entry's type to 0, and leaves the rest). Our own.
use Rattle.std.specs.Prelude.{List, Bool, false, filter, flat_map, if◌then◌else◌, length, nat_eq}
use Rattle.std.specs.Option.{is_some}
use Rattle.d64_image.specs.Images.{Image, sector}
use Rattle.d64_image.specs.declared.place.Place.{Place}
use Rattle.disk_layout.specs.Chain.{named_at}
use Rattle.disk_layout.specs.Directory.{is_used, slots_in}
use Rattle.disk_layout.specs.declared.slot.Slot.{Slot}
use Rattle.damaged_files.specs.reached.Names.{name_of}

-- the slot has an entry that was deleted: its type is 0, and it still has a name and a first block
abbrev pub is_deleted : Slot → Bool
is_deleted s =
    if is_used s then false
    else (if nat_eq (length (name_of s)) 0 then false else is_some (named_at s.bytes 3))

-- the deleted entries of these directory sectors, in order
abbrev pub deleted_slots : Image → List Place → List Slot
deleted_slots img ps = filter is_deleted (flat_map (λ p. slots_in p (sector img p)) ps)
