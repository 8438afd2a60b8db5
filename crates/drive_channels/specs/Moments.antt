-- What the disk may hold during a call that writes: what it may hold during the record call in it.
use Rattle.std.specs.Prelude.{
  ℕ,
  ◌≡◌,
  ◌≤◌,
  ◌+◌,
  ◌⊎◌,
  Bool,
  false,
  true,
  if◌then◌else◌,
  List,
  [],
  ◌∷◌,
  None,
  OnErr,
  OnOk,
  Option,
  Result,
  Some,
}
use Rattle.d64_image.specs.History.{Changes, FailsInOneStep, History, OnlyReads}
use Rattle.d64_image.specs.Images.{Image}
use Rattle.disk_layout.specs.Clean.{IsClean}
use Rattle.disk_layout.specs.Layout.{File, IsLayout, Layout, record_length}
use Rattle.rel_records.specs.Written.{IsGrowingTo, IsInOneBlock, IsWriting, touched}
use Rattle.rel_records.specs.creation.Made.{IsCreating, creation_writes}
use Rattle.rel_records.specs.growth.Growth.{added, growth_writes, records_had}
use Rattle.drive_channels.specs.Files.{HasFile, IsRelAt}
use Rattle.drive_channels.specs.Spelling.{IsWish, Wish}
use Rattle.drive_channels.specs.State.{Channel}
use Rattle.drive_channels.specs.Tables.{HasOn, IsOn}

-- on the way of the growth, or of the writing, at the channel's place
abbrev pub IsOnTheWay : Image → List ℕ → Channel → Layout → File → Image → Type 0
IsOnTheWay old [] c l f img = IsGrowingTo old l c.entry f c.record_number img
IsOnTheWay old text c l f img =
    IsWriting old l c.entry f (added (record_length f.slot) (records_had f) c.record_number) c.record_number c.position
    text img

-- an image on the way of the creation of the file that the text of open names
pub record IsCreatingFor (old : Image) (l : Layout) (w : Wish) (img : Image) : Type 0 where
  pub length : ℕ
  pub given : w.length ≡ Some length
  pub creating : IsCreating old l w.name length img

-- the old image, or one on the way of the creation of the file that the text asks for
abbrev pub IsCreatingFrom : Image → Layout → List ℕ → Image → Type 0
IsCreatingFrom old l text img = (img ≡ old) ⊎ ((w : Wish) × IsWish text w × IsCreatingFor old l w img)

-- the text is empty
abbrev pub is_nil : List ℕ → Bool
is_nil [] = true
is_nil (x ∷ xs) = false

-- the sector writes of a write: those of the growth, and one for each block that the record's bytes from the position
-- on touch
abbrev pub writes_for : File → Channel → List ℕ → ℕ
writes_for f c text = growth_writes f c.record_number + (if is_nil text then 0 else touched (record_length f.slot)
    c.record_number c.position)

-- a write at this place of the file f: every image held and the count of writes; and a record that is there and lies in
-- one block is written in one step
pub record IsWrittenAt {D T E : Type 0} (S : History D) (old new : D) (c : Channel) (l : Layout) (f : File)
    (text : List ℕ) (result : Result T E) : Type 0 where
  pub moments : Changes S old new (writes_for f c text) (IsOnTheWay (S.image old) text c l f)
  pub one_step : c.record_number ≤ records_had f → IsInOneBlock (record_length f.slot) c.record_number
      → OnErr result (FailsInOneStep S old new)

-- a write to the channel of this number: as above if it is open; otherwise the disk isn't touched
pub record IsWrittenOn {D T E : Type 0} (S : History D) (old new : D) (open_one : Option Channel) (number : ℕ)
    (text : List ℕ) (result : Result T E) : Type 0 where
  pub silent : ¬ (HasOn open_one number) → new ≡ old
  pub at : (c : Channel) (l : Layout) (f : File) → IsOn open_one number c → IsRelAt (S.image old) l c.entry f
      → IsWrittenAt S old new c l f text result

-- The opening of the file of a wish, after at most n reads, and 55 more if the file is to be made. Without a length, if
-- the file is there, or if no channel is open afterwards, nothing is written. Otherwise each image held, and the number
-- of writes, is that of the creation.
pub record IsOpenedFor {D T E : Type 0} (S : History D) (old new : D) (n : ℕ) (w : Wish) (after : Option Channel)
    (result : Result T E) : Type 0 where
  pub plain : w.length ≡ None → OnlyReads S old new n
  pub there : HasFile (S.image old) w.name → OnlyReads S old new n
  pub refused : OnOk result (after ≡ None → OnlyReads S old new (n + 55))
  pub reads : OnOk result (S.reads new ≤ S.reads old + (n + 55))
  pub moments : (l : Layout) → IsLayout (S.image old) l
      → Changes S old new (creation_writes l) (λ img. (img ≡ S.image old) ⊎ IsCreatingFor (S.image old) l w img)

-- the opening that a text asks for: the check, the look for the file, and its creation
pub record IsOpenedBy {D T E : Type 0} (S : History D) (old new : D) (text : List ℕ) (before after : Option Channel)
    (result : Result T E) : Type 0 where
  pub plain : ((w : Wish) → IsWish text w → w.length ≡ None) → OnlyReads S old new 2817
  pub there : (w : Wish) → IsWish text w → HasFile (S.image old) w.name → OnlyReads S old new 2817
  pub refused : OnOk result (after ≡ before → OnlyReads S old new 2872)
  pub reads : OnOk result (S.reads new ≤ S.reads old + 2872)
  pub unclean : ¬ (IsClean (S.image old)) → OnlyReads S old new 2115
  pub moments : (l : Layout) → IsLayout (S.image old) l
      → Changes S old new (creation_writes l) (IsCreatingFrom (S.image old) l text)
