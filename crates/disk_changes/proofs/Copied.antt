-- A file of another image that is copied, or why it isn't.
use Rattle.std.proofs.Common.{◌≡◌, [], List, inl, inr, ℕ}
use Rattle.command_faults.specs.declared.faults.CommandFault.{CommandFault}
use Rattle.command_faults.specs.declared.faults.CommandFault.TheVariants as faults
use Rattle.damaged_files.specs.declared.sides.planning.Loss.{Loss}
use Rattle.disk_changes.specs.Copies.{IsCopyRefusal, IsNoCopyAs, IsNoCopyOf, IsNoEmptyCopyOf, IsNoPlainCopyOf, IsNoRecordCopyOf, IsNoTextOf}
use Rattle.disk_changes.specs.Locks.{IsLockRefusal}
use Rattle.disk_changes.specs.Makes.{IsMakeRefusal}
use Rattle.disk_changes.specs.Puts.{IsPutRefusal}
use Rattle.disk_changes.specs.Rewrites.{IsUnlaid}
use Rattle.disk_changes.specs.Stores.{IsStoreRefusal}
use Rattle.disk_layout.specs.declared.slot.Slot.{Slot}
use Rattle.file_changes.specs.declared.file_type.FileType.{FileType}
use Rattle.file_rescues.specs.Whole.{IsWholeFile}

module _ (source name to image : List ℕ) (cut : Loss) where
  -- the other image has a file that isn't copied
  pub not-copied : (entry : Slot) (content : List ℕ) → IsWholeFile source name entry content → (why : CommandFault)
      → IsNoCopyAs entry content source name to image cut why → IsCopyRefusal source name to image cut why
  not-copied entry content whole faults.NoMemory because = inl whole.file.size
  not-copied entry content whole _ because = inr (entry, content, whole, because)

  -- what is no reason at any step is none
  module _ (entry : Slot) (content : List ℕ) (why : CommandFault) (none : why ≡ faults.NoFile → ⊥)
      (put : (kind : FileType) (bytes : List ℕ) → IsPutRefusal image to kind bytes cut why → ⊥) (empty : IsUnlaid why → ⊥)
      (text : IsNoTextOf source name why → ⊥)
      (make : IsMakeRefusal image to cut why → ⊥)
      (store : (bytes given : List ℕ) → IsStoreRefusal bytes to given cut why → ⊥)
      (lock : (bytes : List ℕ) → IsLockRefusal bytes to why → ⊥) where
    no-copy : IsNoCopyOf entry content to image cut why → ⊥
    no-copy (inl (is, relative)) = none is
    no-copy (inr (kind, at, inl refused)) = put kind content refused
    no-copy (inr (kind, at, inr (first, was, (locked, bytes, same, refused)))) = lock bytes refused

    no-empty : IsNoEmptyCopyOf entry to image cut why → ⊥
    no-empty (inl (is, relative)) = none is
    no-empty (inr (kind, at, inl refused)) = put kind [] refused
    no-empty (inr (kind, at, inr (first, was, inl because))) = empty because
    no-empty (inr (kind, at, inr (first, was, inr (second, is, (locked, bytes, same, refused))))) = lock bytes refused

    no-plain : IsNoPlainCopyOf entry content to image cut why → ⊥
    no-plain (inl (none, because)) = no-empty because
    no-plain (inr (some, because)) = no-copy because

    no-records : (given : List ℕ) → IsNoRecordCopyOf entry given to image cut why → ⊥
    no-records given (inl (is, size)) = none is
    no-records given (inr (inl refused)) = make refused
    no-records given (inr (inr (first, new, bytes, held, inl refused))) = store bytes given refused
    no-records given (inr (inr (first, new, bytes, held, inr (second, filled, (locked, after, same, refused))))) = lock after refused

    never : IsNoCopyAs entry content source name to image cut why → ⊥
    never (inl (plain, because)) = no-plain because
    never (inr (relative, inl unread)) = text unread
    never (inr (relative, inr (given, is, unmade))) = no-records given unmade

  unlaid-output : IsUnlaid faults.File → ⊥
  unlaid-output (inl is) = cc
  unlaid-output (inr (inl is)) = cc
  unlaid-output (inr (inr (bytes, unsound))) = unsound

  unlaid-device : IsUnlaid faults.Device → ⊥
  unlaid-device (inl is) = cc
  unlaid-device (inr (inl is)) = cc
  unlaid-device (inr (inr (bytes, unsound))) = unsound

  no-output : IsCopyRefusal source name to image cut faults.File → ⊥
  no-output (inl why) = why
  no-output (inr (entry, content, whole, because)) = never entry content faults.File (λ is. cc) (λ kind bytes why. why) unlaid-output (λ why. why)
      (λ why. why) (λ bytes given why. why) (λ bytes why. why) because

  no-device : IsCopyRefusal source name to image cut faults.Device → ⊥
  no-device (inl why) = why
  no-device (inr (entry, content, whole, because)) = never entry content faults.Device (λ is. cc) (λ kind bytes why. why) unlaid-device (λ why. why)
      (λ why. why) (λ bytes given why. why) (λ bytes why. why) because

  -- what refuses a copy in memory is neither the output nor the device
  pub copied-in-memory : (IsCopyRefusal source name to image cut faults.File → ⊥) × (IsCopyRefusal source name to image cut faults.Device → ⊥)
  copied-in-memory = (no-output, no-device)
