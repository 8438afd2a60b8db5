-- What is printed of the records of a relative file of an image. All of it is our own.
use Rattle.std.specs.Prelude.{◌≡◌, ℕ, zero, suc, ◌+◌, ◌/◌, ◌++◌, List, [], Option, Some, get_or, length, slice_get, unwrap_or}
use Rattle.line_text.specs.bytes.Texts.{record_line}
use Rattle.d64_image.specs.Images.{Image}
use Rattle.d64_image.specs.Memory.{sectors_in}
use Rattle.d64_image.specs.declared.place.Place.{Place}
use Rattle.disk_layout.specs.Fault.{Holds, nowhere}
use Rattle.disk_layout.specs.Layout.{File, IsLayout, Layout}
use Rattle.disk_layout.specs.Records.{pieces}
use Rattle.disk_layout.specs.Rest.{IsFirst, IsNamed}
use Rattle.disk_layout.specs.declared.faults.Fault.{Fault}
use Rattle.disk_layout.specs.declared.slot.Slot.{Slot}
use Rattle.file_rescues.specs.Found.{HasNone, IsHad}
use Rattle.file_rescues.specs.declared.finding.Candidates.TheVariants.{Closed}
use Rattle.file_rescues.specs.declared.finding.Kind.TheVariants.{Records}

-- the lines of the first n of these records, record 1 first
abbrev pub lines_to : List (List ℕ) → ℕ → List ℕ
lines_to rs zero = []
lines_to rs (suc n) = lines_to rs n ++ record_line (n + 1) (get_or rs n [])

-- the lines of all of them
unfoldable pub records_text : List (List ℕ) → List ℕ
records_text rs = lines_to rs (length rs)

-- the image is sound, and this is its first closed relative file of that name
pub record IsRecordFile (image name : List ℕ) (file : File) : Type 0 where
  pub size : length image ≡ 174848
  pub layout : Layout
  pub is_layout : IsLayout (sectors_in image) layout
  -- its number among the entries
  pub number : ℕ
  pub first : IsFirst layout name number file

-- the image is sound, and no closed relative file has this name
pub record HasNoRecordFile (image name : List ℕ) : Type 0 where
  pub size : length image ≡ 174848
  pub layout : Layout
  pub is_layout : IsLayout (sectors_in image) layout
  pub none : (k : ℕ) (f : File) → slice_get layout.files k ≡ Some f → ¬ (IsNamed name f)

-- the whole records of L bytes among these bytes, record 1 first
abbrev pub records_of : ℕ → List ℕ → List (List ℕ)
records_of L bytes = pieces L (length bytes / L) bytes

-- The disk isn't sound, by the fault `first`, and these blocks can be reached of the first closed file of that name that
-- has records. What is reported is the file's own fault, or `first` if it has none.
pub record IsReachedFile (img : Image) (name : List ℕ) (fault : Fault) : Type 0 where
  pub first : Fault
  pub holds : Holds nowhere img first
  pub number : ℕ
  pub slot : Slot
  pub blocks : List Place
  pub last : ℕ
  pub own : Option Fault
  pub had : IsHad img (Records Closed) name number slot blocks last own
  pub fault_is : fault ≡ unwrap_or own first

-- the disk isn't sound, by this fault, and no such file can be found
pub record HasNoReached (img : Image) (name : List ℕ) (fault : Fault) : Type 0 where
  pub holds : Holds nowhere img fault
  pub ended : Option Fault
  pub none : HasNone img (Records Closed) name ended
