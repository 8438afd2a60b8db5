-- The names, IDs and types that the words give. Our own.
use Rattle.std.specs.Prelude.{◌≡◌, ◌∷◌, [], ℕ, Bool, List, Option, Some, None, codes, if◌then◌else◌, length, option_map, slice_get, unwrap_or}
use Rattle.std.specs.List.{list_any}
use Rattle.std.specs.Str.{bytes_eq}
use Rattle.clap.specs.Words.{Row, Text, first_of}
use Rattle.line_text.specs.bytes.Texts.{AreBytes, text_of}
use Rattle.disk_changes.specs.declared.entry_types.EntryType.{EntryType}
use Rattle.disk_changes.specs.declared.entry_types.EntryType.TheVariants.{Plain, Relative}
use Rattle.file_changes.specs.declared.file_type.FileType.{FileType}
use Rattle.file_changes.specs.declared.file_type.FileType.TheVariants.{Prg, Seq, Usr}
use Rattle.file_changes.specs.NewNames.{IsNewName}
use Rattle.command_table.specs.Grammar.{value}
use Rattle.file_changes.specs.Names.{IsNameOf}

-- this text is no name of a file or a disk
abbrev pub IsNoName : Text → Type 0
IsNoName text = (bytes : List ℕ) → AreBytes bytes → ¬ (IsNameOf text bytes)

-- nor one that a file can get
abbrev pub IsNoNewName : Text → Type 0
IsNoNewName text = (bytes : List ℕ) → AreBytes bytes → IsNameOf text bytes → ¬ (IsNewName bytes)

-- this text is a name
abbrev pub IsName : Text → Type 0
IsName text = (bytes : List ℕ) × IsNameOf text bytes

-- which a file can get
abbrev pub IsNewNameText : Text → Type 0
IsNewNameText text = (bytes : List ℕ) × IsNameOf text bytes × IsNewName bytes

-- what a name is for
pub data NameUse : Type 0 where
  -- a file or a disk has it
  Had : NameUse
  -- a file gets it
  Given : NameUse

-- a text is no name for this
abbrev pub IsNoNameFor : NameUse → Text → Type 0
IsNoNameFor Had text = IsNoName text
IsNoNameFor Given text = IsNoNewName text

-- the name that the words give a copy: that of NEW, otherwise of NAME
abbrev pub copy_name : List Row → Text
copy_name rows = unwrap_or (first_of (codes "NEW") rows) (value (codes "NAME") rows)

-- one of these words
abbrev pub is_among : List Text → Text → Bool
is_among words word = list_any (bytes_eq word) words

-- the texts that a subcommand with these values takes for names
abbrev pub names_in : (word : Text) → List Row → List (NameUse × Text)
names_in word rows =
    if is_among (codes "make" ∷ codes "put" ∷ []) word then (Given, value (codes "NAME") rows) ∷ []
    else (if is_among (codes "rename" ∷ []) word then (Had, value (codes "OLD") rows) ∷ (Given, value (codes "NEW") rows) ∷ []
    else (if is_among (codes "copy-file" ∷ []) word then (Had, value (codes "NAME") rows) ∷ (Given, copy_name rows) ∷ []
    else (if is_among (codes "records" ∷ codes "bytes" ∷ codes "basic" ∷ codes "store" ∷ codes "delete" ∷ codes "undelete"
    ∷ codes "lock" ∷ codes "unlock" ∷ codes "title" ∷ codes "new" ∷ []) word then (Had, value (codes "NAME") rows) ∷ []
    else [])))

-- one of these texts is no name for its use
pub record IsNameMissing (names : List (NameUse × Text)) : Type 0 where
  pub number : ℕ
  pub purpose : NameUse
  pub text : Text
  pub at : slice_get names number ≡ Some (purpose, text)
  pub none : IsNoNameFor purpose text

-- These two bytes have this text: the ID of a disk.
pub record IsIdOf (text bytes : List ℕ) : Type 0 where
  pub is : text ≡ text_of bytes
  pub two : length bytes ≡ 2

-- no two bytes have this text
abbrev pub IsNoId : Text → Type 0
IsNoId text = (bytes : List ℕ) → AreBytes bytes → ¬ (IsIdOf text bytes)

-- the type of a file that has this word
abbrev pub type_named : Text → Option FileType
type_named word = if bytes_eq word (codes "prg") then Some Prg else (if bytes_eq word (codes "seq") then Some Seq
    else (if bytes_eq word (codes "usr") then Some Usr else None))

-- the type of a deleted file that has this word
abbrev pub entry_type_named : Text → Option EntryType
entry_type_named word = if bytes_eq word (codes "rel") then Some Relative else option_map Plain (type_named word)

-- the type that the words give a deleted file as TYPE
abbrev pub entry_type_in : List Row → Option EntryType
entry_type_in rows = entry_type_named (value (codes "TYPE") rows)

-- the type that the words give as TYPE
abbrev pub type_in : List Row → Option FileType
type_in rows = type_named (value (codes "TYPE") rows)

-- the words say that the file is a CVT
abbrev pub is_cvt : List Row → Bool
is_cvt rows = bytes_eq (value (codes "TYPE") rows) (codes "cvt")
