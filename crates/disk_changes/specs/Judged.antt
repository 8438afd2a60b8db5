-- An image that is judged before it is changed. Our own.
use Rattle.std.specs.Prelude.{◌≡◌, ◌≢◌, ◌<◌, ◌⊎◌, List, length, ℕ}
use Rattle.command_faults.specs.Faults.{IsCleanFault, IsSoundFault}
use Rattle.command_faults.specs.declared.faults.CommandFault.{CommandFault}
use Rattle.command_faults.specs.declared.faults.CommandFault.TheVariants as faults
use Rattle.d64_image.specs.Images.{Image}
use Rattle.d64_image.specs.Memory.{sectors_in}
use Rattle.d64_image.specs.declared.place.Place.{Place}
use Rattle.damaged_files.specs.cut.OfName.{IsCutNamed}
use Rattle.damaged_files.specs.cut.Told.{IsCutShort}
use Rattle.damaged_files.specs.declared.sides.planning.Loss.{Loss}
use Rattle.damaged_files.specs.declared.sides.planning.Loss.TheVariants.{Accepted, Refused}
use Rattle.disk_changes.specs.mended.Kinds.{IsGeosDisk}
use Rattle.disk_layout.specs.Layout.{IsLayout, Layout}
use Rattle.disk_layout.specs.Rest.{slot_name}
use Rattle.file_changes.specs.Entries.{IsFreeName, entries_of}
use Rattle.layout_check.specs.Keeping as keeping

-- The image is that of a sound disk. A file of it may be cut short.
pub record IsSoundDisk (image : List ℕ) : Type 0 where
  pub size : length image ≡ 174848
  pub layout : Layout
  pub sound : IsLayout (sectors_in image) layout

-- no file of the image is cut short, or one may be
abbrev pub IsTaken : (image : List ℕ) → Loss → Type 0
IsTaken image cut = (length image ≡ 174848) × ((cut ≡ Accepted) ⊎ ((p : Place) → ¬ (IsCutShort image p)))

-- The image is clean, but its map calls these sectors taken, which nobody owns.
pub record IsCleanWith (strays : List Place) (img : Image) (l : Layout) : Type 0 where
  pub are : keeping.AreStray img l strays
  pub clean : keeping.IsCleanBut strays img l

-- it is clean, or would be without such sectors
abbrev pub HasStraysAlone : Image → Type 0
HasStraysAlone img = (l : Layout) × (strays : List Place) × IsCleanWith strays img l

-- no file of the image is cut short, or one may be, and its disk is so
pub record IsUsableDisk (image : List ℕ) (cut : Loss) : Type 0 where
  pub taken : IsTaken image cut
  pub layout : Layout
  pub strays : List Place
  pub usable : IsCleanWith strays (sectors_in image) layout

-- the image is that of a disk of GEOS, or of one with a file of GEOS
abbrev pub IsOfGeos : List ℕ → Type 0
IsOfGeos image = IsGeosDisk (sectors_in image)

-- a file of it is cut short at p, and it isn't of GEOS
abbrev pub IsPlainCut : List ℕ → Place → Type 0
IsPlainCut image p = IsCutShort image p × ¬ (IsOfGeos image)

-- a file of it is cut short somewhere, and it is of GEOS
abbrev pub IsGeosCut : List ℕ → Type 0
IsGeosCut image = IsOfGeos image × ((p : Place) × IsCutShort image p)

-- why an image isn't taken: its size, no memory, or a file of it is cut short and that isn't accepted
abbrev pub IsUntaken : (image : List ℕ) → Loss → CommandFault → Type 0
IsUntaken image cut faults.ImageSize = length image ≢ 174848
IsUntaken image cut faults.NoMemory = length image ≡ 174848
IsUntaken image cut (faults.Short p) = (cut ≡ Refused) × IsPlainCut image p
IsUntaken image cut faults.Geos = (cut ≡ Refused) × IsGeosCut image
IsUntaken image cut why = ⊥

-- why it isn't that of a sound disk that is taken
abbrev pub IsUnsoundOrShort : (image : List ℕ) → Loss → CommandFault → Type 0
IsUnsoundOrShort image cut why = IsUntaken image cut why ⊎ IsSoundFault image why

-- why its disk can't be used: more than such sectors is wrong
abbrev pub IsUsableFault : List ℕ → CommandFault → Type 0
IsUsableFault image (faults.Layout fault) =
    IsCleanFault image (faults.Layout fault) × ¬ (HasStraysAlone (sectors_in image))
IsUsableFault image why = IsCleanFault image why

-- why the image isn't that of a disk that can be used
abbrev pub IsUnusable : (image : List ℕ) → Loss → CommandFault → Type 0
IsUnusable image cut (faults.Short p) = (cut ≡ Refused) × IsPlainCut image p
IsUnusable image cut faults.Geos = (cut ≡ Refused) × IsGeosCut image
IsUnusable image cut fault = IsUsableFault image fault

-- it is so, and this holds of its layout
pub record IsSoundBut (image : List ℕ) (Q : Layout → Type 0) : Type 0 where
  pub disk : IsSoundDisk image
  pub but : Q disk.layout

pub record IsUsableBut (image : List ℕ) (cut : Loss) (Q : Layout → Type 0) : Type 0 where
  pub disk : IsUsableDisk image cut
  pub but : Q disk.layout

-- no entry has the name: it is too long for one, or none is so named
abbrev pub IsNoName : Layout → List ℕ → Type 0
IsNoName l name = (16 < length name) ⊎ IsFreeName (entries_of l) (slot_name name)

-- what is reported of a change in memory: its output fails only if there is no memory for it
abbrev pub in_memory : CommandFault → CommandFault
in_memory faults.File = faults.NoMemory
in_memory fault = fault

-- the first file of this name on the image's disk, which is sound, is cut short
abbrev pub IsNamedCut : (image name : List ℕ) → Type 0
IsNamedCut image name = (length image ≡ 174848) × ((p : Place) × IsCutNamed (sectors_in image) name p)

-- whether a change of the file of this name accepts the loss of a part of a file: if it does so of all, or if this very file is
-- cut short
abbrev pub IsAcceptedFor : (image name : List ℕ) → (asked used : Loss) → Type 0
IsAcceptedFor image name asked used = ((used ≡ Accepted) × IsNamedCut image name) ⊎ ((used ≡ asked) × ¬ (IsNamedCut image name))
