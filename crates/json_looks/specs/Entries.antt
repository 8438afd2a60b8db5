-- Entries of the directory as objects of JSON. What their members are called is our own.
use Rattle.std.specs.Prelude.{ℕ, ◌%◌, List, None, Option, Some, codes, if◌then◌else◌, nat_eq, nat_le, slice_index}
use Rattle.std.specs.Int.{bit_at}
use Rattle.disk_layout.specs.Directory.{type_byte}
use Rattle.disk_layout.specs.Layout.{count_field}
use Rattle.disk_layout.specs.declared.slot.Slot.{Slot}
use Rattle.damaged_files.specs.reached.Names.{name_of}
use Rattle.damaged_files.specs.reached.Types.{type_name}
use Rattle.geos_files.specs.Entries.{geos_entry}
use Rattle.geos_files.specs.declared.entries.GeosEntry.{GeosEntry}
use Rattle.geos_files.specs.Types.{geos_type_name, structure_name}
use Rattle.json_looks.specs.Objects.{count}
use Rattle.line_text.specs.bytes.Texts.{text_of}
use Rattle.serde_json.specs.Data.{Data, boolean, member, no_members, null, object, string}

-- a number, if there is one
abbrev pub count_if : Option ℕ → Data
count_if None = null
count_if (Some n) = count n

-- bytes of the disk as the text that can be typed for them
abbrev pub typed : List ℕ → Data
typed bytes = string (text_of bytes)

-- the structure and the type of a file of GEOS
abbrev pub geos_members : Slot → Option GeosEntry → Data
geos_members s None = null
geos_members s (Some entry) =
    object (member (codes "structure") (string (structure_name entry.has_records))
    (member (codes "type") (count (slice_index s.bytes 24))
    (member (codes "type_name") (string (geos_type_name (slice_index s.bytes 24))) no_members)))

-- what the entry says of its file of GEOS; null if it isn't the entry of one
abbrev pub geos_data : Slot → Data
geos_data s = geos_members s (geos_entry s)

-- the record length of a relative file, closed or not
abbrev pub record_length_of : Slot → Option ℕ
record_length_of s = if nat_eq (type_byte s % 64) 4 then Some (slice_index s.bytes 23) else None

-- an entry: its block count as stored, whether it is closed and locked, what GEOS has of it, its name, its record length, its
-- first sector as stored, and its type
abbrev pub entry_data : Slot → Data
entry_data s =
    object (member (codes "blocks") (count (count_field s))
    (member (codes "closed") (boolean (nat_le 128 (type_byte s)))
    (member (codes "geos") (geos_data s)
    (member (codes "locked") (boolean (nat_eq (bit_at (type_byte s) 6) 1))
    (member (codes "name") (typed (name_of s))
    (member (codes "record_length") (count_if (record_length_of s))
    (member (codes "sector") (count (slice_index s.bytes 4))
    (member (codes "track") (count (slice_index s.bytes 3))
    (member (codes "type") (string (type_name (type_byte s % 64))) no_members)))))))))
