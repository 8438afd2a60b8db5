-- What comes of sorting the directory of an image: bytes 2 to 31 of its slots change places (1541 User's Guide, directory
-- format). The order is our own.
use Rattle.std.specs.Prelude.{◌≡◌, ◌⊎◌, ◌-◌, ◌+◌, ◌*◌, ◌++◌, ◌∷◌, List, codes, flat_map, if◌then◌else◌, length, replicate, slice_range, ℕ}
use Rattle.std.specs.List.Sorted.{IsPermutation, IsSortedByKey, IsStableByKey}
use Rattle.std.specs.Ordering.{nat_cmp, ordering_then}
use Rattle.std.specs.Cmp.Lexicographic.{slice_cmp}
use Rattle.std.specs.declared.cmp.Ordering.{Ordering}
use Rattle.command_faults.specs.declared.faults.CommandFault.{CommandFault}
use Rattle.d64_image.specs.Images.{Image, sector}
use Rattle.d64_image.specs.Memory.{disk_image, sectors_in}
use Rattle.d64_image.specs.declared.place.Place.{Place}
use Rattle.command_faults.specs.Faults.{IsSoundFault}
use Rattle.disk_changes.specs.Judged.{IsSoundDisk}
use Rattle.disk_changes.specs.declared.changes.Changed.{Changed}
use Rattle.disk_layout.specs.Directory.{is_used, slots_in}
use Rattle.disk_layout.specs.declared.slot.Slot.{Slot}
use Rattle.file_changes.specs.Patches.{patched}
use Rattle.file_rescues.specs.rescue.Deleted.{is_deleted}
use Rattle.damaged_files.specs.reached.Names.{name_of}

-- the slots of these directory sectors, in order
abbrev pub all_slots : Image → List Place → List Slot
all_slots img ps = flat_map (λ p. slots_in p (sector img p)) ps

-- the name of an entry, without shifted spaces at its end, filled up with zeros
abbrev pub filled_name : Slot → List ℕ
filled_name s = name_of s ++ replicate (16 - length (name_of s)) 0

-- what a slot is sorted by: entries by their names, then deleted entries, then free slots
abbrev pub rank : Slot → ℕ × List ℕ
rank s = if is_used s then (0, filled_name s) else (if is_deleted s then (1, replicate 16 0) else (2, replicate 16 0))

-- by the first number, and then byte by byte
abbrev pub rank_cmp : ℕ × List ℕ → ℕ × List ℕ → Ordering
rank_cmp a b = ordering_then (nat_cmp a.0 b.0) (slice_cmp nat_cmp a.1 b.1)

-- the one slots are the others in order; those of one rank stay in the order that they had
pub record AreInOrder (slots sorted : List Slot) : Type 0 where
  pub moved : IsPermutation slots sorted
  pub ascend : IsSortedByKey rank rank_cmp sorted
  pub stable : IsStableByKey rank rank_cmp slots sorted

-- the disk with bytes 2 to 31 of the slot t in the place of those of its slot s
abbrev pub with_entry : Image → (s t : Slot) → Image
with_entry img s t = patched img s.sector (32 * s.number + 2) (slice_range t.bytes 2 32)

-- the same of each of these slots, one after another
abbrev pub with_entries : Image → (slots entries : List Slot) → Image
with_entries img (s ∷ ss) (t ∷ ts) = with_entries (with_entry img s t) ss ts
with_entries img _ _ = img

-- the slots of the directory in order, each with the entry that comes there; the rest of the image is as it was
pub record IsReordered (img : Image) (directory : List Place) (after : Image) : Type 0 where
  pub entries : List Slot
  pub order : AreInOrder (all_slots img directory) entries
  pub is : after ≡ with_entries img (all_slots img directory) entries

-- The disk that comes of it is that image's, and sound; and what is printed.
pub record IsSorted (image : List ℕ) (made : Changed) : Type 0 where
  pub before : IsSoundDisk image
  pub bytes : List ℕ
  pub reordered : IsReordered (sectors_in image) before.layout.directory (sectors_in bytes)
  pub sound : IsSoundDisk bytes
  pub after : disk_image made.disk ≡ sectors_in bytes
  pub text : made.text.items ≡ codes "SORTED\n"

-- why it isn't sorted: it isn't sound before, or after
abbrev pub IsSortRefusal : (image : List ℕ) → CommandFault → Type 0
IsSortRefusal image why = IsSoundFault image why
    ⊎ ((before : IsSoundDisk image) × (bytes : List ℕ)
    × IsReordered (sectors_in image) before.layout.directory (sectors_in bytes) × IsSoundFault bytes why)
