-- What comes of an entry that gets another name. Our own.
use Rattle.std.specs.Prelude.{◌≡◌, ◌≢◌, ◌⊎◌, ℕ, ◌+◌, ◌*◌, ◌≤◌, List, Contains, IfErr, IfOk, OnOk, Result, Some, slice_get}
use Rattle.d64_image.specs.History.{Changes, History, OnlyReads}
use Rattle.d64_image.specs.Images.{Image, sector}
use Rattle.d64_image.specs.declared.place.Place.{Place}
use Rattle.disk_layout.specs.Clean.{IsClean, IsCleanLayout}
use Rattle.disk_layout.specs.Layout.{File, IsLayout, Layout, file_owns}
use Rattle.disk_layout.specs.Rest.{slot_name}
use Rattle.disk_layout.specs.Whole.{IsWhole}
use Rattle.disk_layout.specs.declared.slot.Slot.{Slot}
use Rattle.file_changes.specs.Entries.{IsFirstNamed, IsFreeName, entries_of, renamed, with_file}
use Rattle.file_changes.specs.Faults.{TellsChange}
use Rattle.file_changes.specs.Patches.{patched}
use Rattle.command_faults.specs.declared.faults.CommandFault.{CommandFault}
use Rattle.command_faults.specs.declared.faults.CommandFault.TheVariants.{Device, FileExists, NoFile}

-- f, file n of the layout, is the one that a change of the name `from` to the name `to` is about
pub record IsRenamable (l : Layout) (from to : List ℕ) (n : ℕ) (f : File) : Type 0 where
  pub file : slice_get l.files n ≡ Some f
  pub first : IsFirstNamed (entries_of l) (slot_name from) n f.slot
  pub free : IsFreeName (entries_of l) (slot_name to)

-- c is the image a with sixteen bytes of one directory sector changed: the name of f, which is file n of the layout l
pub record IsRenamed (a : Image) (l : Layout) (n : ℕ) (f : File) (to : List ℕ) (c : Image) : Type 0 where
  pub bytes : c ≡ patched a f.slot.sector (32 * f.slot.number + 5) (slot_name to)
  pub layout : IsLayout c (with_file l n (renamed f to))
  -- what files own is as it was
  pub files : (g : File) (p : Place) → Contains l.files g → Contains (file_owns g) p → sector c p ≡ sector a p
  pub clean : IsCleanLayout a l → IsCleanLayout c (with_file l n (renamed f to))
  pub whole : IsClean a → IsWhole a → IsWhole c

-- the change was made
pub record HasNewName (a : Image) (l : Layout) (from to : List ℕ) (c : Image) : Type 0 where
  pub number : ℕ
  pub file : File
  pub of : IsRenamable l from to number file
  pub done : IsRenamed a l number file to c

-- An entry got another name, or not, on a disk with the layout l.
pub record RenamesIn {D : Type 0} (S : History D) (old new : D) (l : Layout) (from to : List ℕ)
    (result : Result (Unit {0}) CommandFault) : Type 0 where
  pub ok : OnOk result (HasNewName (S.image old) l from to (S.image new))
  pub not_found : IfErr result (λ e. e ≡ NoFile → IsFreeName (entries_of l) (slot_name from))
  pub exists : IfErr result (λ e. e ≡ FileExists → ¬ (IsFreeName (entries_of l) (slot_name from)) × ¬ (IsFreeName (entries_of l) (slot_name to)))
  -- every image held, and the one write
  pub moments : Changes S old new 1 (λ c. (c ≡ S.image old) ⊎ HasNewName (S.image old) l from to c)

-- The entry to be renamed was found, or the change is refused; nothing was written.
pub record FindsRenamable {D : Type 0} (S : History D) (old new : D) (from to : List ℕ)
    (result : Result Slot CommandFault) : Type 0 where
  pub ok : (l : Layout) → IsLayout (S.image old) l → IfOk result (λ s.
      (n : ℕ) × IsFirstNamed (entries_of l) (slot_name from) n s × IsFreeName (entries_of l) (slot_name to))
  pub not_found : (l : Layout) → IsLayout (S.image old) l
      → IfErr result (λ e. e ≡ NoFile → IsFreeName (entries_of l) (slot_name from))
  pub exists : (l : Layout) → IsLayout (S.image old) l → IfErr result (λ e. e ≡ FileExists
      → ¬ (IsFreeName (entries_of l) (slot_name from)) × ¬ (IsFreeName (entries_of l) (slot_name to)))
  pub told : IfErr result (λ e. (e ≡ NoFile) ⊎ ((e ≡ FileExists) ⊎ (e ≡ Device)))
  pub reads : OnlyReads S old new 18
  pub failures : TellsChange S old new result

-- The first entry of a name got another name, or was refused.
pub record Renames {D : Type 0} (S : History D) (old new : D) (from to : List ℕ)
    (result : Result (Unit {0}) CommandFault) : Type 0 where
  pub layout : (l : Layout) → IsLayout (S.image old) l → RenamesIn S old new l from to result
  pub told : IfErr result (λ e. (e ≡ NoFile) ⊎ ((e ≡ FileExists) ⊎ (e ≡ Device)))
  pub refused : IfErr result (λ e. e ≢ Device → OnlyReads S old new 18)
  pub reads : S.reads new ≤ S.reads old + 19
  pub failures : TellsChange S old new result
