-- The index of the files that were rescued: comma-separated values (RFC 4180), a line for each. Our own.
use Rattle.std.specs.Prelude.{ℕ, ◌%◌, List, [], ◌++◌, None, Option, Some, codes, decimal, flat_map}
use Rattle.std.specs.Prelude.{if◌then◌else◌, length, nat_eq, nat_lt}
use Rattle.std.specs.Int.{bit_at}
use Rattle.line_text.specs.basic.Characters.{hex}
use Rattle.line_text.specs.bytes.Texts.{text_of}
use Rattle.d64_image.specs.declared.place.Place.{Place}
use Rattle.disk_layout.specs.Directory.{type_byte}
use Rattle.disk_layout.specs.Layout.{count_field, record_length}
use Rattle.disk_layout.specs.Texts.{fault_text, place_text}
use Rattle.disk_layout.specs.declared.faults.Fault.{Fault}
use Rattle.line_text.specs.declared.petscii.characters.CharacterSet.TheVariants.{Graphics}
use Rattle.line_text.specs.petscii.Quoted.{quoted}
use Rattle.damaged_files.specs.reached.Names.{name_of}
use Rattle.damaged_files.specs.reached.Types.{type_name}
use Rattle.long_chains.specs.Sectors.{sector_past, track_past}
use Rattle.file_rescues.specs.rescue.Art.{is_art}
use Rattle.file_rescues.specs.rescue.Named.{first_name}
use Rattle.file_rescues.specs.declared.rescue.rows.Row.{Row}

-- the first line: what stands in each column
abbrev pub heading : List ℕ
heading = codes "number,file,name,text,type,closed,locked,blocks,found,length,bytes,fault,shared,errors,sha256\n"

-- whether the file is closed: bit 7 of its type byte
abbrev pub closed_text : ℕ → List ℕ
closed_text t = if nat_lt t 128 then codes "no" else codes "yes"

-- whether it is locked: bit 6
abbrev pub locked_text : ℕ → List ℕ
locked_text t = if nat_eq (bit_at t 6) 1 then codes "yes" else codes "no"

-- the length of a record; of a file that isn't relative nothing
abbrev pub length_text : ℕ → ℕ → List ℕ
length_text t length = if nat_eq (t % 16) 4 then decimal length else []

-- what ended the file's chain before its end; nothing otherwise
abbrev pub ended_text : Option Fault → List ℕ
ended_text None = []
ended_text (Some fault) = fault_text fault

-- the first sector past track 35 of the file that several have; nothing otherwise
abbrev pub past_text : Option ℕ → List ℕ
past_text None = []
past_text (Some n) = decimal (track_past n) ++ (codes "/" ++ decimal (sector_past n))

-- the first block of the file that several have, on tracks 1 to 35 if there is one, and otherwise past these
abbrev pub shared_text : Option Place → (past : Option ℕ) → List ℕ
shared_text None past = past_text past
shared_text (Some p) past = place_text p

-- the hash of the file's bytes, in hexadecimal digits; nothing if there is no file
abbrev pub hash_text : Option (List ℕ) → List ℕ
hash_text None = []
hash_text (Some hash) = flat_map hex hash

-- the name of the file; none of directory art. Each byte of it is its own text
unfoldable pub file_text : Row → List ℕ
file_text r =
    if is_art r.slot then [] else text_of (first_name r.number r.is_cvt r.slot)

-- whose the row is: the entry's number, the file's name, the entry's name as it is typed, and as a C64 shows it
unfoldable pub naming_text : Row → List ℕ
naming_text r =
    decimal r.number ++ (codes ",\"" ++ (file_text r
    ++ (codes "\",\"" ++ (text_of (name_of r.slot) ++ (codes "\"," ++ (quoted Graphics (name_of r.slot) ++ codes ","))))))

-- what its entry says: its type, whether it is closed and locked, and its block count
unfoldable pub entry_text : Row → List ℕ
entry_text r =
    type_name (type_byte r.slot % 16) ++ (codes "," ++ (closed_text (type_byte r.slot) ++ (codes ","
    ++ (locked_text (type_byte r.slot) ++ (codes "," ++ (decimal (count_field r.slot) ++ codes ","))))))

-- what was found: how many blocks, the length of a record, how many bytes, and what is wrong
unfoldable pub found_text : Row → (past : Option ℕ) → List ℕ
found_text r past =
    decimal r.blocks ++ (codes "," ++ (length_text (type_byte r.slot) (record_length r.slot) ++ (codes ","
    ++ (decimal r.bytes ++ (codes "," ++ (ended_text r.fault ++ (codes "," ++ shared_text r.shared past)))))))

-- the line of a file, with its first sector past track 35 that several have, and what is said of its blocks that weren't read
unfoldable pub row_text : Row → (past : Option ℕ) → (errors : List ℕ) → List ℕ
row_text r past errors =
    naming_text r ++ (entry_text r ++ (found_text r past ++ (codes "," ++ (errors ++ (codes ","
    ++ (hash_text r.hash ++ codes "\n"))))))
