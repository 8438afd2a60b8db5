-- Files that are made in a folder: their names, and what the folder holds then. Our own.
use Rattle.std.specs.Prelude.{◌≡◌, ◌≢◌, ◌⊎◌, ◌≤◌, ⊤, ℕ, List, [], ◌∷◌, ◌++◌, Contains, None, Option, Some, codes, length, slice_get, take}

-- a file: its name, and its bytes
pub record NewFile : Type 0 where
  pub name : List ℕ
  pub bytes : List ℕ

-- the file of this name and these bytes
abbrev pub new_file : List ℕ → List ℕ → NewFile
new_file name bytes = record { name = name; bytes = bytes }

-- A name of a file that lies in the folder in which the name is used, and that any system takes. It has no separator of
-- folders and no zero, isn't one of the two names that a system gives folders, and isn't long
pub record StaysInside (name : List ℕ) : Type 0 where
  pub some : 1 ≤ length name
  pub short : length name ≤ 255
  pub no_separator : ¬ (Contains name 47)
  pub no_zero : ¬ (Contains name 0)
  pub not_here : name ≢ codes "."
  pub not_above : name ≢ codes ".."

-- none of the files that a folder got has this name, if they are known
abbrev pub LacksName : Option (List NewFile) → (name : List ℕ) → Type 0
LacksName None name = ⊤
LacksName (Some had) name = (k : ℕ) (file : NewFile) → slice_get had k ≡ Some file → file.name ≢ name

-- a folder of which it is known that it got the files `old` got these after them, and no other
abbrev pub AddsFiles : Option (List NewFile) → Option (List NewFile) → List NewFile → Type 0
AddsFiles None new files = ⊤
AddsFiles (Some had) None files = ⊥
AddsFiles (Some had) (Some has) files = has ≡ had ++ files

-- after these there is one file more, the first of those that are left, with a prefix of its bytes
abbrev pub BeginsNext : (front back these : List NewFile) → Type 0
BeginsNext front [] these = ⊥
BeginsNext front (next ∷ back) these =
    (n : ℕ) × (these ≡ front ++ new_file next.name (take n next.bytes) ∷ [])

-- these are a beginning of the files, or that and one with a beginning of the next one's bytes
pub record IsPartOf (files these : List NewFile) : Type 0 where
  pub front : List NewFile
  pub back : List NewFile
  pub split : files ≡ front ++ back
  pub are : (these ≡ front) ⊎ BeginsNext front back these

-- such a folder got a beginning of these files, and perhaps a part of the next one
abbrev pub AddsPart : Option (List NewFile) → Option (List NewFile) → List NewFile → Type 0
AddsPart None new files = ⊤
AddsPart (Some had) None files = ⊥
AddsPart (Some had) (Some has) files = (these : List NewFile) × (has ≡ had ++ these) × IsPartOf files these
