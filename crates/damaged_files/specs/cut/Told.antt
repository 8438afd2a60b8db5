-- What is reported of the files of a disk that are cut short. Our own.
use Rattle.std.specs.Prelude.{◌≡◌, ℕ, ◌<◌, ◌++◌, List, Option, None, Some, codes, length, slice_get}
use Rattle.d64_image.specs.Images.{Image}
use Rattle.d64_image.specs.Memory.{sectors_in}
use Rattle.d64_image.specs.declared.place.Place.{Place}
use Rattle.disk_layout.specs.Layout.{File, IsLayout, Layout}
use Rattle.damaged_files.specs.cut.Cut.{HasFewer, IsCutAt}
use Rattle.damaged_files.specs.declared.cut.shortfalls.Shortfall.{Shortfall}
use Rattle.damaged_files.specs.declared.cut.shortfalls.Shortfall.TheVariants as lacks
use Rattle.disk_layout.specs.Texts.{place_text}

-- the call is about the entry with this number, from 0: about each, or about the one that is asked for
abbrev pub IsAsked : Option ℕ → ℕ → Type 0
IsAsked None number = Unit {0}
IsAsked (Some asked) number = number ≡ asked

-- of the files that the call is about, this one is cut short at p, and none before it
pub record IsFirstCut (img : Image) (l : Layout) (entry : Option ℕ) (p : Place) : Type 0 where
  pub number : ℕ
  pub file : File
  pub there : slice_get l.files number ≡ Some file
  pub asked : IsAsked entry number
  pub cut : IsCutAt img l file p
  pub first : (k : ℕ) (g : File) (q : Place) → k < number → slice_get l.files k ≡ Some g → IsAsked entry k
      → ¬ (IsCutAt img l g q)

-- none of them is cut short
abbrev pub HasNoCut : Image → Layout → Option ℕ → Type 0
HasNoCut img l entry = (k : ℕ) (g : File) (q : Place) → slice_get l.files k ≡ Some g → IsAsked entry k
    → ¬ (IsCutAt img l g q)

-- the result: the place where the first of them is cut short, or None if none is
abbrev pub IsToldOf : Image → Layout → Option ℕ → Option Place → Type 0
IsToldOf img l entry (Some p) = IsFirstCut img l entry p
IsToldOf img l entry None = HasNoCut img l entry

-- the result for a disk that may be unsound: the first of them is cut short there; None if the disk isn't sound, or if
-- none is cut short
abbrev pub IsToldOfDisk : Image → Option ℕ → Option Place → Type 0
IsToldOfDisk img entry (Some p) = (l : Layout) × IsLayout img l × IsFirstCut img l entry p
IsToldOfDisk img entry None = (l : Layout) → IsLayout img l → HasNoCut img l entry

-- and for an image's bytes
abbrev pub IsToldOfImage : List ℕ → Option ℕ → Option Place → Type 0
IsToldOfImage image entry told = IsToldOfDisk (sectors_in image) entry told

-- the image is that of a sound disk, of which a file is cut short at p
pub record IsCutShort (image : List ℕ) (p : Place) : Type 0 where
  pub size : length image ≡ 174848
  pub layout : Layout
  pub sound : IsLayout (sectors_in image) layout
  pub number : ℕ
  pub file : File
  pub there : slice_get layout.files number ≡ Some file
  pub cut : IsCutAt (sectors_in image) layout file p

-- of all files this one is the first that has fewer blocks than its entry says, and it ends at p
pub record IsFirstFewer (l : Layout) (p : Place) : Type 0 where
  pub number : ℕ
  pub file : File
  pub there : slice_get l.files number ≡ Some file
  pub fewer : HasFewer file p
  pub first : (k : ℕ) (g : File) (q : Place) → k < number → slice_get l.files k ≡ Some g → ¬ (HasFewer g q)

-- none of them has
abbrev pub HasNoFewer : Layout → Type 0
HasNoFewer l = (k : ℕ) (g : File) (q : Place) → slice_get l.files k ≡ Some g → ¬ (HasFewer g q)

-- the result: where the first of them ends, or None
abbrev pub IsFewerTold : Layout → Option Place → Type 0
IsFewerTold l (Some p) = IsFirstFewer l p
IsFewerTold l None = HasNoFewer l

-- what the files lack: the first one that is cut short; otherwise the first that has fewer blocks; or nothing
abbrev pub IsShortfall : Image → Layout → Option Shortfall → Type 0
IsShortfall img l (Some (lacks.Short p)) = IsFirstCut img l None p
IsShortfall img l (Some (lacks.Fewer p)) = HasNoCut img l None × IsFirstFewer l p
IsShortfall img l None = HasNoCut img l None × HasNoFewer l

-- and for a disk that may be unsound, of which no file is checked then
abbrev pub IsShortfallOf : Image → Option Shortfall → Type 0
IsShortfallOf img (Some lack) = (l : Layout) × IsLayout img l × IsShortfall img l (Some lack)
IsShortfallOf img None = (l : Layout) → IsLayout img l → IsShortfall img l None

-- what is printed of it: FEWER 17/0
abbrev pub shortfall_text : Shortfall → List ℕ
shortfall_text (lacks.Short p) = codes "SHORT " ++ place_text p
shortfall_text (lacks.Fewer p) = codes "FEWER " ++ place_text p
