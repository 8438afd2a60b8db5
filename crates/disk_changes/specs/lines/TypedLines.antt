-- Lines of records that are typed in the characters of a set, as lines of records. Our own.
use Rattle.std.specs.Prelude.{◌≡◌, ◌≢◌, ◌≤◌, ◌⊎◌, ◌-◌, ℕ, List, [], ◌∷◌, ◌++◌, get_or, length}
use Rattle.line_text.specs.bytes.Texts.{record_line, trimmed}
use Rattle.line_text.specs.petscii.Quoted.{one_line}
use Rattle.line_text.specs.petscii.Typing.{IsTextLine, IsTyped}
use Rattle.line_text.specs.declared.petscii.characters.CharacterSet.{CharacterSet}

-- A text leaves these bytes in a record that has the old ones: they stay if they read so already, and otherwise the record gets those
-- that a keyboard gives for the text
abbrev pub IsLeft : CharacterSet → (old text bytes : List ℕ) → Type 0
IsLeft set old text bytes = ((text ≡ one_line set (trimmed old)) × (bytes ≡ old))
    ⊎ ((text ≢ one_line set (trimmed old)) × IsTyped set text bytes)

-- a line is of no record's number and text, or no bytes that a record can have come of its text
abbrev pub LeavesNone : CharacterSet → List (List ℕ) → (line : List ℕ) → Type 0
LeavesNone set rs line = ((n : ℕ) (text : List ℕ) → 1 ≤ n → n ≤ 182880 → ¬ (IsTextLine line n text))
    ⊎ ((n : ℕ) × (text : List ℕ) × (1 ≤ n) × (n ≤ 182880) × IsTextLine line n text
    × ((bytes : List ℕ) → length bytes ≤ 254 → ¬ (IsLeft set (get_or rs (n - 1) []) text bytes)))

-- a line of a record, for a line that is typed: its bytes are those that the text leaves in the record of its number
pub record IsOfRecord (set : CharacterSet) (rs : List (List ℕ)) (line made : List ℕ) : Type 0 where
  pub number : ℕ
  pub low : 1 ≤ number
  pub high : number ≤ 182880
  pub text : List ℕ
  pub is : IsTextLine line number text
  pub bytes : List ℕ
  pub left : IsLeft set (get_or rs (number - 1) []) text bytes
  pub made_is : made ≡ record_line number bytes

-- that line; or one that is no record's, for a line that leaves no bytes
abbrev pub IsMadeOf : CharacterSet → List (List ℕ) → (line made : List ℕ) → Type 0
IsMadeOf set rs line made = IsOfRecord set rs line made ⊎ (LeavesNone set rs line × (made ≡ 10 ∷ []))

-- these of all lines, one after another
abbrev pub AreMadeOf : CharacterSet → List (List ℕ) → (lines : List (List ℕ)) → (plain : List ℕ) → Type 0
AreMadeOf set rs [] plain = plain ≡ []
AreMadeOf set rs (line ∷ lines) plain =
    (made more : List ℕ) × IsMadeOf set rs line made × AreMadeOf set rs lines more × (plain ≡ made ++ more)

-- what was appended is so
abbrev pub Pushes : (old new : List ℕ) → (List ℕ → Type 0) → Type 0
Pushes old new P = (made : List ℕ) × (new ≡ old ++ made) × P made

-- the line of record n was appended, with the bytes that a text leaves; or an empty line, if it leaves none
abbrev pub IsPushed : CharacterSet → ℕ → (had text old new : List ℕ) → Type 0
IsPushed set n had text old new =
    ((bytes : List ℕ) × IsLeft set had text bytes × (new ≡ old ++ record_line n bytes))
    ⊎ (((bytes : List ℕ) → length bytes ≤ 254 → ¬ (IsLeft set had text bytes)) × (new ≡ old ++ 10 ∷ []))
