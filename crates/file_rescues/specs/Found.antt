-- What can be had of a file on a disk that may be hurt: of the first entry that is asked for, as far as the directory can
-- be read. All of it is our own.
use Rattle.std.specs.Prelude.{◌≡◌, ◌<◌, ◌≤◌, ◌%◌, ◌&&◌, ⊤, ℕ, Bool, IsTrue, List, None, Option, Some}
use Rattle.std.specs.Prelude.{if◌then◌else◌, nat_eq, nat_le, nat_lt, slice_get, slice_range}
use Rattle.std.specs.Option.{option_or}
use Rattle.d64_image.specs.Images.{Image}
use Rattle.d64_image.specs.declared.place.Place.{Place}
use Rattle.damaged_files.specs.reached.Directories.{IsReadSoFar}
use Rattle.disk_layout.specs.Directory.{type_byte}
use Rattle.disk_layout.specs.Layout.{record_length}
use Rattle.disk_layout.specs.Rest.{slot_name}
use Rattle.disk_layout.specs.declared.faults.Fault.{Fault}
use Rattle.disk_layout.specs.declared.faults.Fault.TheVariants.{Unclosed}
use Rattle.disk_layout.specs.declared.slot.Slot.{Slot}
use Rattle.damaged_files.specs.reached.Reached.{IsReached}
use Rattle.damaged_files.specs.reached.Sharing.{IsOwned, first_shared, shared_fault}
use Rattle.file_rescues.specs.declared.finding.Candidates.{Candidates}
use Rattle.file_rescues.specs.declared.finding.Candidates.TheVariants.{All, Closed}
use Rattle.file_rescues.specs.declared.finding.Kind.{Kind}
use Rattle.file_rescues.specs.declared.finding.Kind.TheVariants as kinds

-- the entry may be found by its name: all may, or only those that are closed
abbrev pub IsCandidate : Candidates → Slot → Type 0
IsCandidate Closed s = 128 ≤ type_byte s
IsCandidate All s = ⊤

-- it may be found, of whatever type, and has this name
abbrev pub IsNamedSo : Candidates → List ℕ → Slot → Type 0
IsNamedSo candidates name s = IsCandidate candidates s × (slice_range s.bytes 5 21 ≡ slot_name name)

-- the fault of an entry that isn't closed
abbrev pub unclosed : Slot → Option Fault
unclosed s = if nat_lt (type_byte s) 128 then Some (Unclosed s.sector) else None

-- the file has records: it is relative, closed or not, and their length is one that there is
abbrev pub has_records : Slot → Bool
has_records s = nat_eq (type_byte s % 16) 4 && (nat_le 1 (record_length s) && nat_le (record_length s) 254)

-- the length of the records of a file that has some
abbrev pub records_length : Slot → Option ℕ
records_length s = if has_records s then Some (record_length s) else None

-- the entry is asked for: it may be found and has the name; and it has records if these are asked for
abbrev pub IsAsked : Kind → List ℕ → Slot → Type 0
IsAsked (kinds.Any candidates) name s = IsNamedSo candidates name s
IsAsked (kinds.Records candidates) name s = IsNamedSo candidates name s × IsTrue (has_records s)

-- none of these entries is
abbrev pub HasNoneAsked : List Slot → Kind → List ℕ → Type 0
HasNoneAsked entries kind name = (k : ℕ) (s : Slot) → slice_get entries k ≡ Some s → ¬ (IsAsked kind name s)

-- entry n of these is, and none before it
pub record IsFirstAsked (entries : List Slot) (kind : Kind) (name : List ℕ) (n : ℕ) : Type 0 where
  pub slot : Slot
  pub there : slice_get entries n ≡ Some slot
  pub asked : IsAsked kind name slot
  pub first : (k : ℕ) (s : Slot) → k < n → slice_get entries k ≡ Some s → ¬ (IsAsked kind name s)

-- no entry is asked for, as far as the directory can be read, up to this fault
pub record HasNone (img : Image) (kind : Kind) (name : List ℕ) (ended : Option Fault) : Type 0 where
  pub directory : List Place
  pub entries : List Slot
  pub read : IsReadSoFar img directory entries ended
  pub none : HasNoneAsked entries kind name

-- The first entry that is asked for, which has this number, has a file, of which these blocks can be reached, up to the
-- index `last` of the last one. The fault is the first of these: what ends the directory early, what ends the file's chain early, its first block
-- that is also the map's, the directory's or another entry's, and that the entry isn't closed.
pub record IsHad (img : Image) (kind : Kind) (name : List ℕ) (number : ℕ) (s : Slot) (blocks : List Place) (last : ℕ)
    (fault : Option Fault) : Type 0 where
  pub directory : List Place
  pub entries : List Slot
  pub ended : Option Fault
  pub read : IsReadSoFar img directory entries ended
  pub first : IsFirstAsked entries kind name number
  pub entry : s ≡ first.slot
  pub broken : Option Fault
  pub reached : IsReached img s blocks broken last
  pub all : List Place
  pub owned : IsOwned img directory entries all
  pub fault_is : fault ≡ option_or (option_or (option_or ended broken) (shared_fault (first_shared all blocks))) (unclosed s)

-- Why a file may not be whole, its chain aside: what ends the directory early, its first block that others have too, and that the
-- entry isn't closed
abbrev pub apart_from_chain : Slot → (blocks : List Place) → (ended : Option Fault) → (all : List Place) → Option Fault
apart_from_chain s blocks ended all = option_or (option_or ended (shared_fault (first_shared all blocks))) (unclosed s)
