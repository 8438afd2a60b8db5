-- Names of files on another system for the entries of a disk. All of it is our own.
use Rattle.std.specs.Prelude.{◌≤◌, ℕ, ◌+◌, ◌/◌, ◌%◌, ◌&&◌, Bool, List, [], ◌∷◌, ◌++◌, Contains, IsTrue, codes, if◌then◌else◌, length, map, nat_eq, nat_le, nat_lt, not, slice_index}
use Rattle.std.specs.List.{AllByRecursion}
use Rattle.line_text.specs.declared.petscii.file_names.Ending.{Ending}
use Rattle.line_text.specs.declared.petscii.file_names.Ending.TheVariants.{Del, Seq, Prg, Usr, Rel, Other, Records}

-- the bytes that a name of a file may have: $20 to $7A, except " * / : < > ? \, which not every system allows
abbrev pub is_file_byte : ℕ → Bool
is_file_byte b =
    nat_le 32 b && (nat_le b 122 && (not (nat_eq b 34) && (not (nat_eq b 42) && (not (nat_eq b 47)
    && (not (nat_eq b 58) && (not (nat_eq b 60) && (not (nat_eq b 62) && (not (nat_eq b 63) && not (nat_eq b 92)))))))))

-- a byte of an entry's name in the file's name: the byte itself, or a low line
abbrev pub file_byte : ℕ → ℕ
file_byte b = if is_file_byte b then b else 95

-- the number of an entry below 256: two digits, from 100 on three. 7 is 07
abbrev pub number_text : ℕ → List ℕ
number_text n =
    if nat_lt n 100 then (48 + n / 10) ∷ (48 + n % 10) ∷ []
    else (48 + n / 100) ∷ (48 + n / 10 % 10) ∷ (48 + n % 10) ∷ []

-- the ending of a name: what the entry's type is, or that it has the entry's records as lines
abbrev pub ending_text : Ending → List ℕ
ending_text Del = codes ".del"
ending_text Seq = codes ".seq"
ending_text Prg = codes ".prg"
ending_text Usr = codes ".usr"
ending_text Rel = codes ".rel"
ending_text Other = codes ".bin"
ending_text Records = codes ".csv"

-- the ending for an entry of this type, which is in the low four bits of its type byte
abbrev pub ending_of : ℕ → Ending
ending_of t =
    if nat_eq (t % 16) 0 then Del
    else (if nat_eq (t % 16) 1 then Seq
    else (if nat_eq (t % 16) 2 then Prg
    else (if nat_eq (t % 16) 3 then Usr
    else (if nat_eq (t % 16) 4 then Rel else Other))))

-- the name of the file for entry n: 1, LETTER/02 and Prg give 01-LETTER_02.prg
unfoldable pub file_name_of : ℕ → List ℕ → Ending → List ℕ
file_name_of n name ending = number_text n ++ 45 ∷ (map file_byte name ++ ending_text ending)

-- A name that any system takes, and that is the name of a file in the folder in which it is used. It begins with a
-- digit, so it is neither empty, nor `.` or `..`, nor taken for an option. It has no separator of folders and no
-- control byte. It ends with a letter, and it isn't long.
pub record IsSafeName (text : List ℕ) : Type 0 where
  pub first_low : 48 ≤ slice_index text 0
  pub first_high : slice_index text 0 ≤ 57
  pub bytes : AllByRecursion (λ b. IsTrue (is_file_byte b)) text
  pub no_separator : ¬ (Contains text 47)
  pub long : 7 ≤ length text
  pub short : length text ≤ 24
