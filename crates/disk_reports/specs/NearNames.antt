-- The names of an image that are near to one that was asked for, as they are printed. Our own.
use Rattle.std.specs.Prelude.{◌≡◌, ℕ, ◌%◌, List, [], ◌++◌, Option, codes, filter, flat_map, if◌then◌else◌, length, nat_lt, take}
use Rattle.std.specs.Io.KnownBytes.{Appends}
use Rattle.d64_image.specs.Memory.{sectors_in}
use Rattle.d64_image.specs.declared.place.Place.{Place}
use Rattle.damaged_files.specs.reached.Directories.{IsReadSoFar}
use Rattle.damaged_files.specs.reached.Nearness.{is_near}
use Rattle.damaged_files.specs.reached.Types.{type_name}
use Rattle.disk_layout.specs.Directory.{type_byte}
use Rattle.disk_layout.specs.declared.faults.Fault.{Fault}
use Rattle.disk_layout.specs.declared.slot.Slot.{Slot}
use Rattle.disk_reports.specs.AllFaults.{spaced_name}

-- a type as a directory shows it: of an entry that isn't closed with an asterisk
abbrev pub shown_type : ℕ → List ℕ
shown_type t = (if nat_lt t 128 then codes "*" else []) ++ type_name (t % 16)

-- after a space a name between quotation marks, as it can be typed, and its type: "LETTER 02" *PRG
abbrev pub near_name : Slot → List ℕ
near_name s = spaced_name s ++ (codes " " ++ shown_type (type_byte s))

-- the first three names near to this one were printed, in their order, on an output that held `old` and holds `new`. They
-- are of the entries that can be read of the image's directory
pub record AreNearPrinted {W : Type 0} (contents : W → Option (List ℕ)) (image name : List ℕ) (old new : W) : Type 0
  where
    pub size : length image ≡ 174848
    pub directory : List Place
    pub entries : List Slot
    pub end : Option Fault
    pub read : IsReadSoFar (sectors_in image) directory entries end
    pub printed : Appends (contents old) (contents new) (flat_map near_name (take 3 (filter (is_near name) entries)))
