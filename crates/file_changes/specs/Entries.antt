-- Entries of a directory by their names, and an entry that changes. Our own, over the 1541 User's Guide's directory format.
use Rattle.std.specs.Prelude.{◌≡◌, ◌⊎◌, IfErr, IfOk, Result, ℕ, suc, ◌<◌, ◌++◌, List, Some, drop, map, slice_get, slice_range, slice_set, take}
use Rattle.d64_image.specs.Offsets.{overwritten}
use Rattle.d64_image.specs.History.{History, OnlyReads}
use Rattle.disk_layout.specs.Layout.{File, IsLayout, Layout}
use Rattle.disk_layout.specs.Rest.{slot_name}
use Rattle.disk_layout.specs.declared.slot.Slot.{Slot}
use Rattle.file_changes.specs.Faults.{TellsChange}
use Rattle.command_faults.specs.declared.faults.CommandFault.{CommandFault}
use Rattle.command_faults.specs.declared.faults.CommandFault.TheVariants.{Device, NoFile}

-- the sixteen bytes of the entry's name are these
abbrev pub HasName : List ℕ → Slot → Type 0
HasName padded s = slice_range s.bytes 5 21 ≡ padded

-- s, entry n of these, is the first that has the name, of whatever type
pub record IsFirstNamed (entries : List Slot) (padded : List ℕ) (n : ℕ) (s : Slot) : Type 0 where
  pub there : slice_get entries n ≡ Some s
  pub named : HasName padded s
  pub first : (k : ℕ) (t : Slot) → k < n → slice_get entries k ≡ Some t → ¬ (HasName padded t)

-- none of these entries has it
abbrev pub IsFreeName : List Slot → List ℕ → Type 0
IsFreeName entries padded = (k : ℕ) (s : Slot) → slice_get entries k ≡ Some s → ¬ (HasName padded s)

-- the entries of a layout, in the order of the directory
abbrev pub entries_of : Layout → List Slot
entries_of l = map (λ f. f.slot) l.files

-- The first entry of a name was found, or none has it; nothing was written.
pub record FindsEntry {D : Type 0} (S : History D) (old new : D) (name : List ℕ) (result : Result Slot CommandFault) : Type 0
  where
    pub ok : (l : Layout) → IsLayout (S.image old) l
        → IfOk result (λ s. (n : ℕ) × IsFirstNamed (entries_of l) (slot_name name) n s)
    pub not_found : (l : Layout) → IsLayout (S.image old) l
        → IfErr result (λ e. e ≡ NoFile → IsFreeName (entries_of l) (slot_name name))
    pub told : IfErr result (λ e. (e ≡ NoFile) ⊎ (e ≡ Device))
    pub reads : OnlyReads S old new 18
    pub failures : TellsChange S old new result

-- the file with another name in its entry
abbrev pub renamed : File → List ℕ → File
renamed f name = record {
  slot = record {
    sector = f.slot.sector;
    number = f.slot.number;
    bytes = overwritten f.slot.bytes 5 (slot_name name);
  };
  blocks = f.blocks;
  last = f.last;
  sides = f.sides;
}

-- the layout with g as its file n
abbrev pub with_file : Layout → ℕ → File → Layout
with_file l n g = record { directory = l.directory; files = slice_set l.files n g }

-- the layout without its file n
abbrev pub without_file : Layout → ℕ → Layout
without_file l n = record { directory = l.directory; files = take n l.files ++ drop (suc n) l.files }
