-- What comes of an entry that is deleted. Our own.
use Rattle.std.specs.Prelude.{◌≡◌, ◌≢◌, ◌⊎◌, ℕ, ◌+◌, ◌*◌, ◌≤◌, [], ◌∷◌, List, IfErr, IfOk, OnOk, Result, Some, slice_get}
use Rattle.d64_image.specs.History.{Changes, History, OnlyReads}
use Rattle.d64_image.specs.Images.{Image, sector}
use Rattle.d64_image.specs.Offsets.{overwritten}
use Rattle.d64_image.specs.declared.place.Place.{Place}
use Rattle.disk_layout.specs.Directory.{map_place, type_byte}
use Rattle.disk_layout.specs.Layout.{File, IsLayout, Layout}
use Rattle.disk_layout.specs.Rest.{header_of, slot_name}
use Rattle.disk_layout.specs.Whole.{IsWhole}
use Rattle.disk_layout.specs.declared.slot.Slot.{Slot}
use Rattle.file_changes.specs.Entries.{IsFirstNamed, IsFreeName, entries_of, without_file}
use Rattle.file_changes.specs.Faults.{TellsChange}
use Rattle.layout_check.specs.Keeping.{AreStray, IsCleanBut}
use Rattle.command_faults.specs.declared.faults.CommandFault.{CommandFault}
use Rattle.command_faults.specs.declared.faults.CommandFault.TheVariants.{Device, Locked, NoFile}

-- bit 6 of the entry's type is set, as in a closed entry of one of the types C0 to C4
abbrev pub IsLocked : Slot → Type 0
IsLocked s = 192 ≤ type_byte s

-- f, file n of the layout, is the one that a deletion of this name is about
pub record IsDeletable (l : Layout) (name : List ℕ) (n : ℕ) (f : File) : Type 0 where
  pub file : slice_get l.files n ≡ Some f
  pub first : IsFirstNamed (entries_of l) (slot_name name) n f.slot
  pub unlocked : ¬ (IsLocked f.slot)

-- c has the files of a but f, file n of the layout l: in its entry the type is 0, and of all other bytes only the map may
-- differ
pub record IsWithout (a : Image) (l : Layout) (n : ℕ) (f : File) (c : Image) : Type 0 where
  pub layout : IsLayout c (without_file l n)
  pub entry : sector c f.slot.sector ≡ overwritten (sector a f.slot.sector) (32 * f.slot.number + 2) (0 ∷ [])
  pub elsewhere : (p : Place) → p ≢ map_place → p ≢ f.slot.sector → sector c p ≡ sector a p
  pub header : header_of c ≡ header_of a
  pub whole : IsWhole a → IsWhole c

-- the file of that name is gone
pub record HasLost (a : Image) (l : Layout) (name : List ℕ) (c : Image) : Type 0 where
  pub number : ℕ
  pub file : File
  pub of : IsDeletable l name number file
  pub without : IsWithout a l number file c

-- and its sectors are free; those that were taken though nobody owned them still are, and otherwise c is clean
pub record HasFreed (a : Image) (l : Layout) (name : List ℕ) (c : Image) : Type 0 where
  pub lost : HasLost a l name c
  pub clean : (strays : List Place) → AreStray a l strays → IsCleanBut strays a l
      → IsCleanBut strays c (without_file l lost.number)

-- A file was deleted, or not, on a disk with the layout l.
pub record DeletesIn {D : Type 0} (S : History D) (old new : D) (l : Layout) (name : List ℕ)
    (result : Result (Unit {0}) CommandFault) : Type 0 where
  pub ok : OnOk result (HasFreed (S.image old) l name (S.image new))
  pub not_found : IfErr result (λ e. e ≡ NoFile → IsFreeName (entries_of l) (slot_name name))
  pub locked : IfErr result (λ e. e ≡ Locked
      → (n : ℕ) × (s : Slot) × IsFirstNamed (entries_of l) (slot_name name) n s × IsLocked s)
  -- every image held, and the two writes
  pub moments : Changes S old new 2 (λ c. (c ≡ S.image old) ⊎ HasLost (S.image old) l name c)

-- The file to be deleted was found, or the deletion is refused; nothing was written.
pub record FindsDeletable {D : Type 0} (S : History D) (old new : D) (name : List ℕ)
    (result : Result Slot CommandFault) : Type 0 where
  pub ok : (l : Layout) → IsLayout (S.image old) l → IfOk result (λ s.
      (n : ℕ) × IsFirstNamed (entries_of l) (slot_name name) n s × ¬ (IsLocked s))
  pub not_found : (l : Layout) → IsLayout (S.image old) l
      → IfErr result (λ e. e ≡ NoFile → IsFreeName (entries_of l) (slot_name name))
  pub locked : (l : Layout) → IsLayout (S.image old) l → IfErr result (λ e. e ≡ Locked
      → (n : ℕ) × (s : Slot) × IsFirstNamed (entries_of l) (slot_name name) n s × IsLocked s)
  pub told : IfErr result (λ e. (e ≡ NoFile) ⊎ ((e ≡ Locked) ⊎ (e ≡ Device)))
  pub reads : OnlyReads S old new 18
  pub failures : TellsChange S old new result

-- The first file of a name was deleted, or that was refused.
pub record Deletes {D : Type 0} (S : History D) (old new : D) (name : List ℕ)
    (result : Result (Unit {0}) CommandFault) : Type 0 where
  pub layout : (l : Layout) → IsLayout (S.image old) l → DeletesIn S old new l name result
  pub told : IfErr result (λ e. (e ≡ NoFile) ⊎ ((e ≡ Locked) ⊎ (e ≡ Device)))
  pub refused : IfErr result (λ e. e ≢ Device → OnlyReads S old new 18)
  -- those of two surveys, the directory's, an entry and the map
  pub reads : S.reads new ≤ S.reads old + 4248
  pub failures : TellsChange S old new result
