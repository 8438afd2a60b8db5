-- How what is taken out of an image is printed. All of it is our own.
use Rattle.std.specs.Prelude.{◌≡◌, true, ℕ, zero, suc, ◌+◌, ◌-◌, ◌++◌, List, [], None, Option, codes, decimal, get_or, if◌then◌else◌, length, slice_get, ⊤}
use Rattle.line_text.specs.basic.Listings.{is_ended, listing}
use Rattle.d64_image.specs.declared.place.Place.{Place}
use Rattle.line_text.specs.bytes.Texts.{record_line, trimmed}
use Rattle.line_text.specs.petscii.Characters.{readable}
use Rattle.line_text.specs.declared.petscii.characters.CharacterSet.{CharacterSet}
use Rattle.line_text.specs.petscii.Quoted.{quoted}
use Rattle.line_text.specs.columns.Columns.{columns_of}
use Rattle.line_text.specs.columns.Pieces.{piece_columns}
use Rattle.line_text.specs.columns.Positions.{ArePositions, starts}
use Rattle.file_rescues.specs.Programs.{is_program}
use Rattle.file_rescues.specs.Records.{records_text}
use Rattle.file_rescues.specs.declared.forms.ByteForm.{ByteForm}
use Rattle.file_rescues.specs.declared.forms.ByteForm.TheVariants as bytes
use Rattle.file_rescues.specs.declared.forms.ColumnForm.{ColumnForm}
use Rattle.file_rescues.specs.declared.forms.ColumnForm.TheVariants as columns
use Rattle.file_rescues.specs.declared.forms.FileForm.{FileForm}
use Rattle.file_rescues.specs.declared.forms.FileForm.TheVariants as files
use Rattle.file_rescues.specs.declared.forms.RecordForm.{RecordForm}
use Rattle.file_rescues.specs.declared.forms.RecordForm.TheVariants as forms

-- A record's line as people read it: its number, and the text of its bytes up to the last one that isn't 0. In the mixed
-- set record 3 of 48 49 0D and zeros is 3,"hi\0d"
abbrev pub text_line : CharacterSet → ℕ → List ℕ → List ℕ
text_line set n r = decimal n ++ (codes "," ++ (quoted set (trimmed r) ++ codes "\n"))

-- a record as columns: its fields, or its pieces at positions
abbrev pub columns_as : ColumnForm → List ℕ → List ℕ
columns_as columns.Fields r = columns_of (trimmed r)
columns_as (columns.At positions) r = piece_columns (starts positions) r

-- the first column has a position, and so has each other one
abbrev pub HasPositions : ColumnForm → Type 0
HasPositions columns.Fields = ⊤
HasPositions (columns.At positions) = ArePositions (starts positions)

-- a record's line with several columns. Record 3 of KING, CR, LEEDS, CR and zeros is, by fields, 3,"KING","LEEDS"
abbrev pub columns_line : ColumnForm → ℕ → List ℕ → List ℕ
columns_line form n r = decimal n ++ (codes "," ++ (columns_as form r ++ codes "\n"))

-- a record's line in each form
abbrev pub form_line : RecordForm → ℕ → List ℕ → List ℕ
form_line forms.Lines n r = record_line n r
form_line (forms.Text set) n r = text_line set n r
form_line (forms.Columns form) n r = columns_line form n r

-- the lines of the first n of these records in a form, record 1 first
abbrev pub form_lines_to : RecordForm → List (List ℕ) → ℕ → List ℕ
form_lines_to form rs zero = []
form_lines_to form rs (suc n) = form_lines_to form rs n ++ form_line form (n + 1) (get_or rs n [])

-- the lines of all of them
abbrev pub records_as : RecordForm → List (List ℕ) → List ℕ
records_as forms.Lines rs = records_text rs
records_as (forms.Text set) rs = form_lines_to (forms.Text set) rs (length rs)
records_as (forms.Columns form) rs = form_lines_to (forms.Columns form) rs (length rs)

-- the bytes of a file in each form
abbrev pub bytes_as : ByteForm → List ℕ → List ℕ
bytes_as bytes.Plain file = file
bytes_as (bytes.Text set) file = readable set file

-- a file in each form
abbrev pub file_as : FileForm → List ℕ → List ℕ
file_as (files.Bytes form) file = bytes_as form file
file_as files.Listing file = listing file

-- A file has this form: only a program is listed.
abbrev pub HasForm : FileForm → List ℕ → Type 0
HasForm (files.Bytes form) file = ⊤
HasForm files.Listing file = is_program file ≡ true

-- the last block of a file whose program goes on past it
abbrev pub past_end : FileForm → (file : List ℕ) (blocks : List Place) → Option Place
past_end (files.Bytes form) file blocks = None
past_end files.Listing file blocks = if is_ended file then None else slice_get blocks (length blocks - 1)
