-- What comes of a change to the image in a folder. Our own.
use Rattle.std.specs.Prelude.{◌≡◌, ◌≢◌, ◌⊎◌, Err, List, None, Ok, Option, Result, true, ℕ}
use Rattle.std.specs.Io.KnownBytes.{Appends}
use Rattle.command_faults.specs.Outputs.{HandsPart}
use Rattle.d64_image.specs.Memory.{disk_image, sectors_in}
use Rattle.disk_changes.specs.Changes.{IsChanged, IsRefused}
use Rattle.disk_changes.specs.declared.changes.Change.{Change}
use Rattle.disk_changes.specs.declared.changes.Changed.{Changed}
use Rattle.command_faults.specs.declared.faults.CommandFault.{CommandFault}
use Rattle.command_faults.specs.declared.faults.CommandFault.TheVariants as faults
use Rattle.image_log.specs.life.Bringing.{IsWith, RestsAlone}
use Rattle.image_log.specs.life.Folders.{Folder, FolderHistory, LeavesFolders}
use Rattle.image_log.specs.life.Replacing.{KeepsOrGives}
use Rattle.image_log.specs.life.Shops.{Gives}

-- a folder gives the image, or the one with the change
abbrev pub GivesChanged : Change → (image : List ℕ) → Folder → Type 0
GivesChanged what image s = Gives s (sectors_in image)
    ⊎ ((made : Changed) × IsChanged what image made × Gives s (disk_image made.disk))

-- What was printed of a change that is made so, or refused so. It is made, so many sectors are left, and its text was
-- printed; or it is refused, and nothing was; or its image failed to be kept, and nothing was; or nothing of the image was
-- tried, so that it is kept so, and nothing was printed; or it is made, and the output failed.
abbrev pub IsToldAs : {W : Type 0} → (W → Option (List ℕ)) → (Is : Changed → Type 0) → (Refuses : CommandFault → Type 0)
    → (Kept : Type 0) → W → W → Result ℕ CommandFault → Type 0
IsToldAs contents Is Refuses Kept before after (Ok left) =
    (made : Changed) × Is made × (left ≡ made.left) × Appends (contents before) (contents after) made.text.items
IsToldAs contents Is Refuses Kept before after (Err faults.Device) = after ≡ before
IsToldAs contents Is Refuses Kept before after (Err faults.File) = (Kept × (after ≡ before))
    ⊎ ((made : Changed) × Is made × HandsPart (contents before) (contents after) made.text.items)
IsToldAs contents Is Refuses Kept before after (Err why) = Refuses why × (after ≡ before)

-- the same of a change that is only printed: no folder fails
abbrev pub IsShownAs : {W : Type 0} → (W → Option (List ℕ)) → (Is : Changed → Type 0) → (Refuses : CommandFault → Type 0) → W → W
    → Result ℕ CommandFault → Type 0
IsShownAs contents Is Refuses before after result =
    IsToldAs contents Is Refuses ⊥ before after result × (result ≢ Err faults.Device)

-- the same of a change to an image
abbrev pub IsChangePrinted : {W : Type 0} → Change → (image : List ℕ) → (W → Option (List ℕ)) → W → W → Result ℕ CommandFault
    → Type 0
IsChangePrinted what image contents before after result =
    IsShownAs contents (IsChanged what image) (IsRefused what image) before after result

-- the folder is kept with the image as it was: that, a power loss at any moment leaves
abbrev pub KeepsImage : {D : Type 0} → FolderHistory D → (image : List ℕ) → (old new : D) → Type 0
KeepsImage h image old new = RestsAlone h old (sectors_in image) → LeavesFolders h old new (IsWith None (sectors_in image))

-- a call of the folder failed before anything of its image was tried
abbrev pub HasNotBegun : {D : Type 0} → FolderHistory D → (image : List ℕ) → (old new : D) → Type 0
HasNotBegun h image old new = KeepsImage h image old new × (h.has_failed new ≡ true)

module _ {D : Type 0} (h : FolderHistory D) (what : Change) (image : List ℕ) (old new : D) where
  -- the change was made: if the folder had the image alone, it has the new one alone, and a power loss on the way left one of them
  abbrev pub IsMade : Changed → Type 0
  IsMade made = IsChanged what image made × (RestsAlone h old (sectors_in image) → RestsAlone h new (disk_image made.disk)
      × LeavesFolders h old new (KeepsOrGives None (sectors_in image) (disk_image made.disk)))

  -- it was refused, and the folder is as it was
  abbrev pub IsLeft : CommandFault → Type 0
  IsLeft why = IsRefused what image why × (new ≡ old)

  -- a change to the image in a folder ended so
  abbrev pub IsChangeOver : {W : Type 0} → (W → Option (List ℕ)) → W → W → Result ℕ CommandFault → Type 0
  IsChangeOver contents before after result = IsToldAs contents IsMade IsLeft (HasNotBegun h image old new) before after result

-- The image that came of a change wasn't put in the place of this one: for lack of memory, and nothing was done; or the folder
-- failed, before anything of the image was tried, or later.
abbrev pub IsUnplaced : {D : Type 0} → FolderHistory D → (image : List ℕ) → (old new : D) → CommandFault → Type 0
IsUnplaced h image old new faults.NoMemory = new ≡ old
IsUnplaced h image old new faults.File = HasNotBegun h image old new
IsUnplaced h image old new faults.Device = Unit {0}
IsUnplaced h image old new _ = ⊥
