-- What is printed of an image, byte by byte. A listing has the form of a drive's directory (1541 User's Guide,
-- directory); the form of a fault is our own.
use Rattle.std.specs.Prelude.{ℕ, ◌++◌, not, ◌&&◌, List, Option, Some, None, if◌then◌else◌, codes, decimal}
use Rattle.std.specs.Prelude.{flat_map, map, nat_eq, nat_le, slice_range, take_while}
use Rattle.d64_image.specs.Images.{Sector}
use Rattle.disk_layout.specs.Directory.{type_byte}
use Rattle.disk_layout.specs.Layout.{count_field}
use Rattle.disk_layout.specs.Texts.{fault_text}
use Rattle.disk_layout.specs.View.{blocks_free}
use Rattle.disk_layout.specs.declared.faults.Fault.{Fault}
use Rattle.disk_layout.specs.declared.slot.Slot.{Slot}
use Rattle.damaged_files.specs.reached.Types.{type_text}
use Rattle.line_text.specs.petscii.Quoted.{one_line}
use Rattle.disk_reports.specs.declared.texts.NameForm.{NameForm}
use Rattle.disk_reports.specs.declared.texts.NameForm.TheVariants as names

-- the line that a check prints: OK if nothing is wrong
abbrev pub verdict_text : Option Fault → List ℕ
verdict_text None = codes "OK\n"
verdict_text (Some fault) = fault_text fault ++ codes "\n"

-- a byte of the disk as it is printed: a question mark stands for each outside $20 to $7E
abbrev pub shown : ℕ → ℕ
shown b = if nat_le 32 b && nat_le b 126 then b else 63

-- bytes of a name in each form
abbrev pub name_text : NameForm → List ℕ → List ℕ
name_text names.Ascii bytes = map shown bytes
name_text (names.Text set) bytes = one_line set bytes

-- a name of a disk or a file between quotation marks, up to its first A0
unfoldable pub quoted : NameForm → List ℕ → List ℕ
quoted form padded = codes "\"" ++ (name_text form (take_while (λ b. not (nat_eq b 160)) padded) ++ codes "\"")

-- an entry: its block count as stored, its name, its type
unfoldable pub entry_text : NameForm → Slot → List ℕ
entry_text form s =
    decimal (count_field s)
    ++ (codes " " ++ (quoted form (slice_range s.bytes 5 21) ++ (codes " " ++ type_text (codes "<") (type_byte s))))

-- the line of an entry
abbrev pub entry_line : NameForm → Slot → List ℕ
entry_line form s = entry_text form s ++ codes "\n"

-- the disk's name, its id and its version, as 18/0 has them
unfoldable pub disk_text : NameForm → Sector → List ℕ
disk_text form bytes =
    codes "0 " ++ (quoted form (slice_range bytes 144 160) ++ (codes " " ++ (name_text form (slice_range bytes 162 164)
    ++ (codes " " ++ name_text form (slice_range bytes 165 167)))))

-- the number of free blocks
abbrev pub free_text : ℕ → List ℕ
free_text blocks = decimal blocks ++ codes " BLOCKS FREE"

-- the listing of a disk with these bytes of 18/0 and these entries: the disk, its entries, and the free blocks as 18/0
-- counts them
unfoldable pub listing : NameForm → Sector → List Slot → List ℕ
listing form bytes entries =
    disk_text form bytes ++ codes "\n" ++ flat_map (entry_line form) entries ++ free_text (blocks_free bytes) ++ codes "\n"
