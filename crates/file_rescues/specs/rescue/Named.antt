-- Names of the files that are made of entries. Our own.
use Rattle.std.specs.Prelude.{ℕ, Bool, List, ◌∷◌, ◌++◌, codes, if◌then◌else◌, map}
use Rattle.disk_layout.specs.Directory.{type_byte}
use Rattle.disk_layout.specs.declared.slot.Slot.{Slot}
use Rattle.damaged_files.specs.reached.Names.{name_of}
use Rattle.line_text.specs.petscii.FileNames.{ending_of, file_byte, file_name_of, number_text}

-- the name of the CVT of entry n: 1 and LETTER/02 give 01-LETTER_02.cvt
unfoldable pub cvt_name : ℕ → List ℕ → List ℕ
cvt_name n name = number_text n ++ 45 ∷ (map file_byte name ++ codes ".cvt")

-- the name of the file with the bytes of entry n, by its type: 03-MEMBERS.rel, or 03-LETTER.cvt for a file of GEOS
unfoldable pub first_name : ℕ → (is_cvt : Bool) → Slot → List ℕ
first_name n is_cvt s =
    if is_cvt then cvt_name n (name_of s) else file_name_of n (name_of s) (ending_of (type_byte s))
