-- What comes of locking or unlocking a file of an image: bit 6 of the type in its entry (1541 User's Guide).
use Rattle.std.specs.Prelude.{◌≡◌, ◌+◌, ◌*◌, ◌∷◌, [], List, bit_and, bit_or, codes, ℕ}
use Rattle.command_faults.specs.declared.faults.CommandFault.TheVariants as faults
use Rattle.d64_image.specs.Images.{Image}
use Rattle.d64_image.specs.Memory.{disk_image, sectors_in}
use Rattle.command_faults.specs.Faults.{IsSoundFault}
use Rattle.disk_changes.specs.Judged.{IsNoName, IsSoundBut, IsSoundDisk}
use Rattle.disk_changes.specs.declared.changes.Changed.{Changed}
use Rattle.disk_changes.specs.declared.changes.Lock.{Lock}
use Rattle.disk_changes.specs.declared.changes.Lock.TheVariants.{Cleared, Set}
use Rattle.command_faults.specs.declared.faults.CommandFault.{CommandFault}
use Rattle.disk_layout.specs.Directory.{type_byte}
use Rattle.disk_layout.specs.Rest.{slot_name}
use Rattle.disk_layout.specs.declared.slot.Slot.{Slot}
use Rattle.file_changes.specs.Entries.{IsFirstNamed, entries_of}
use Rattle.file_changes.specs.Patches.{patched}
use Rattle.disk_changes.specs.ShopFiles.{HasShopFile}

-- the type with bit 6 so
abbrev pub locked_type : Lock → ℕ → ℕ
locked_type Set kind = bit_or kind 64
locked_type Cleared kind = bit_and kind 191

-- the disk with that type in the entry, and otherwise as it was
abbrev pub with_lock : Image → Slot → Lock → Image
with_lock img s lock = patched img s.sector (32 * s.number + 2) (locked_type lock (type_byte s) ∷ [])

-- what is printed
abbrev pub locked_text : Lock → List ℕ
locked_text Set = codes "LOCKED\n"
locked_text Cleared = codes "UNLOCKED\n"

-- The first entry of that name has its lock on the disk that comes of it; and what is printed.
pub record IsLockSet (image name : List ℕ) (lock : Lock) (made : Changed) : Type 0 where
  pub before : IsSoundDisk image
  pub other : ¬ (HasShopFile image name)
  pub number : ℕ
  pub entry : Slot
  pub first : IsFirstNamed (entries_of before.layout) (slot_name name) number entry
  pub after : disk_image made.disk ≡ with_lock (sectors_in image) entry lock
  pub text : made.text.items ≡ locked_text lock

-- why it isn't
abbrev pub IsLockRefusal : (image name : List ℕ) → CommandFault → Type 0
IsLockRefusal image name faults.ShopFile = IsSoundDisk image × HasShopFile image name
IsLockRefusal image name faults.NoFile = IsSoundBut image (λ l. IsNoName l name)
IsLockRefusal image name why = IsSoundFault image why
