-- A file that isn't relative, written over where it stands, and what came of it judged. Our own.
use Rattle.std.specs.Prelude.{◌≡◌, ◌⊎◌, List, false, ℕ}
use Rattle.command_faults.specs.Faults.{IsSoundFault}
use Rattle.command_faults.specs.declared.faults.CommandFault.{CommandFault}
use Rattle.command_faults.specs.declared.faults.CommandFault.TheVariants as faults
use Rattle.d64_image.specs.Images.{Image, sector}
use Rattle.disk_layout.specs.Directory.{slot_in}
use Rattle.disk_layout.specs.Layout.{Layout, is_rel}
use Rattle.disk_layout.specs.Rest.{slot_name}
use Rattle.disk_layout.specs.declared.slot.Slot.{Slot}
use Rattle.file_changes.specs.Entries.{IsFirstNamed, entries_of}

-- s is the first entry of that name, and isn't that of a relative file
pub record IsPlainNamed (l : Layout) (name : List ℕ) (s : Slot) : Type 0 where
  pub number : ℕ
  pub first : IsFirstNamed (entries_of l) (slot_name name) number s
  pub plain : is_rel s ≡ false

-- the entry of this slot, as the image has it
abbrev pub now_at : Image → Slot → Slot
now_at img s = slot_in s.sector (sector img s.sector) s.number

-- why what was made isn't taken: it isn't such a file, or the disk isn't sound, or there was no memory
abbrev pub IsUnlaid : CommandFault → Type 0
IsUnlaid why = (why ≡ faults.NoFile) ⊎ ((why ≡ faults.NoMemory) ⊎ ((bytes : List ℕ) × IsSoundFault bytes why))
