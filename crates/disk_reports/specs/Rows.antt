-- What is printed of an image as a row of a table: comma-separated values (RFC 4180), a line for each. Our own.
use Rattle.std.specs.Prelude.{ℕ, List, [], ◌∷◌, ◌++◌, None, Option, Some, codes, decimal, flat_map, length, slice_range}
use Rattle.std.specs.Prelude.{◌||◌, if◌then◌else◌, nat_eq, nat_lt}
use Rattle.d64_image.specs.Images.{Sector}
use Rattle.line_text.specs.bytes.Texts.{text_of}
use Rattle.disk_layout.specs.Number.{place_of}
use Rattle.damaged_files.specs.declared.cut.shortfalls.Shortfall.{Shortfall}
use Rattle.damaged_files.specs.declared.cut.shortfalls.Shortfall.TheVariants as lacks
use Rattle.disk_layout.specs.Texts.{fault_text, place_text}
use Rattle.disk_layout.specs.View.{blocks_free}
use Rattle.disk_layout.specs.declared.faults.Fault.{Fault}
use Rattle.disk_reports.specs.Json.{digits}
use Rattle.sha1.specs.Sha1.{sha1}
use Rattle.sha2.specs.Sha256.{sha256}
use Rattle.damaged_files.specs.reached.Names.{disk_name}

-- the first line: what stands in each column
abbrev pub heading : List ℕ
heading = codes "name,size,verdict,track,sector,free,disk,id,short,fewer,sha1,sha256\n"

-- and in each column of images that are described as they are
abbrev pub heading_as_is : List ℕ
heading_as_is = codes "name,size,verdict,track,sector,free,disk,id,short,fewer,sha1,sha256,errors,beyond\n"

-- a byte of a field: a quotation mark stands twice, and a control byte is written by its number, as \u001b
unfoldable pub field_char : ℕ → List ℕ
field_char b =
    if nat_eq b 34 then codes "\"\"" else (if nat_lt b 32 || nat_eq b 127 then codes "\\u00" ++ digits b else b ∷ [])

-- bytes between quotation marks
abbrev pub field : List ℕ → List ℕ
field bytes = codes "\"" ++ (flat_map field_char bytes ++ codes "\"")

-- what a check finds, as it prints it, and the track and the sector of a fault
abbrev pub verdict_cells : Option Fault → List ℕ
verdict_cells None = codes "OK,,"
verdict_cells (Some fault) =
    fault_text fault ++ (codes "," ++ (decimal (place_of fault).track ++ (codes "," ++ decimal (place_of fault).sector)))

-- the free blocks as the map counts them, and the disk's name and id, as they can be typed
abbrev pub disk_cells : Sector → List ℕ
disk_cells map =
    decimal (blocks_free map) ++ (codes ",\"" ++ (text_of (disk_name map) ++ (codes "\",\""
    ++ (text_of (slice_range map 162 164) ++ codes "\""))))

-- where the file ends that is cut short; and the one that has fewer blocks than its entry says
abbrev pub lack_cells : Option Shortfall → List ℕ
lack_cells None = codes ","
lack_cells (Some (lacks.Short p)) = place_text p ++ codes ","
lack_cells (Some (lacks.Fewer p)) = codes "," ++ place_text p

-- the row of an image up to its hashes
abbrev pub row_head : List ℕ → Option Fault → Sector → Option Shortfall → List ℕ
row_head name found map lack =
    field name ++ (codes ",174848," ++ (verdict_cells found ++ (codes "," ++ (disk_cells map ++ (codes ","
    ++ (lack_cells lack ++ codes ","))))))

-- the SHA-1 and the SHA-256 of the image, and the end of the row
abbrev pub row_hashes : List ℕ → List ℕ
row_hashes image = flat_map digits (sha1 image) ++ (codes "," ++ (flat_map digits (sha256 image) ++ codes "\n"))

-- the row of an image
abbrev pub row_text : List ℕ → Option Fault → Sector → Option Shortfall → List ℕ → List ℕ
row_text name found map lack image = row_head name found map lack ++ row_hashes image

-- the size of a file between commas, if it is known
abbrev pub size_cell : Option ℕ → List ℕ
size_cell None = codes ",,"
size_cell (Some size) = codes "," ++ (decimal size ++ codes ",")

-- the row of an image that is refused for this reason
abbrev pub refused_row : List ℕ → Option ℕ → List ℕ → List ℕ
refused_row name size why = field name ++ (size_cell size ++ (why ++ codes ",,,,,,,,,\n"))

-- how many sectors weren't read, and at how many places files go on past track 35
abbrev pub missing_cells : (errors beyond : ℕ) → List ℕ
missing_cells errors beyond = codes "," ++ (decimal errors ++ (codes "," ++ (decimal beyond ++ codes "\n")))

-- the row of an image that is described as it is: of its first 35 tracks, with its size and its hashes, and what isn't on these tracks
abbrev pub row_as_is : List ℕ → Option Fault → Sector → Option Shortfall → List ℕ → (errors beyond : ℕ) → List ℕ
row_as_is name found map lack image errors beyond =
    (field name ++ (codes "," ++ (decimal (length image) ++ (codes "," ++ (verdict_cells found ++ (codes "," ++ (disk_cells map
    ++ (codes "," ++ (lack_cells lack ++ codes ",")))))))))
    ++ ((flat_map digits (sha1 image) ++ (codes "," ++ flat_map digits (sha256 image))) ++ missing_cells errors beyond)

-- the row of one that is refused for this reason
abbrev pub refused_as_is : List ℕ → Option ℕ → List ℕ → List ℕ
refused_as_is name size why = field name ++ (size_cell size ++ (why ++ codes ",,,,,,,,,,,\n"))
