-- Parts of what is printed of an image as an object of JSON, in one line. Our own.
use Rattle.std.specs.Prelude.{ℕ, List, [], ◌∷◌, ◌++◌, None, Option, Some, codes, flat_map}
use Rattle.line_text.specs.bytes.Texts.{text_of}
use Rattle.damaged_files.specs.declared.cut.shortfalls.Shortfall.{Shortfall}
use Rattle.damaged_files.specs.declared.cut.shortfalls.Shortfall.TheVariants as lacks
use Rattle.disk_layout.specs.Texts.{place_text}
use Rattle.disk_layout.specs.declared.slot.Slot.{Slot}
use Rattle.disk_reports.specs.Json.{json_string}
use Rattle.damaged_files.specs.reached.Names.{name_of}

-- bytes of the disk as a string: the text that can be typed for them
abbrev pub typed : List ℕ → List ℕ
typed bytes = json_string (text_of bytes)

-- the name of one entry more
abbrev pub next_name : Slot → List ℕ
next_name s = codes "," ++ typed (name_of s)

-- the names of entries, with commas between them
abbrev pub names_text : List Slot → List ℕ
names_text [] = []
names_text (s ∷ ss) = typed (name_of s) ++ flat_map next_name ss

-- where the file ends that is cut short, or has fewer blocks than its entry says
abbrev pub lack_text : Shortfall → List ℕ
lack_text (lacks.Short p) = codes ",\"short\":\"" ++ (place_text p ++ codes "\",\"fewer\":null")
lack_text (lacks.Fewer p) = codes ",\"short\":null,\"fewer\":\"" ++ (place_text p ++ codes "\"")

-- the same, if there is one
abbrev pub end_text : Option Shortfall → List ℕ
end_text None = codes ",\"short\":null,\"fewer\":null"
end_text (Some lack) = lack_text lack

-- what an object begins with: the image's name
abbrev pub head_text : List ℕ → List ℕ
head_text name = codes "{\"name\":" ++ json_string name

-- the files that the fault concerns
abbrev pub files_text : List Slot → List ℕ
files_text files = codes ",\"files\":[" ++ (names_text files ++ codes "]")
