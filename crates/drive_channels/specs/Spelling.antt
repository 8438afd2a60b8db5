-- Names, the texts of open, and commands (1541 User's Guide, relative files; what of them is taken is our own).
use Rattle.std.specs.Prelude.{
  ℕ,
  ◌≡◌,
  ◌≤◌,
  ◌⊎◌,
  ◌&&◌,
  ◌%◌,
  ◌+◌,
  ◌*◌,
  not,
  Bool,
  List,
  [],
  ◌∷◌,
  ◌++◌,
  None,
  Option,
  Some,
  IsTrue,
  codes,
  length,
  max,
  nat_eq,
  nat_le,
  slice_index,
  slice_index_or,
}
use Rattle.std.specs.List.{AllByRecursion}

-- a byte of a name: $20 to $5F but " $ * , : = ? @
abbrev pub is_name_byte : ℕ → Bool
is_name_byte b = (nat_le 32 b && nat_le b 95) &&
    (not (nat_eq b 34) && (not (nat_eq b 36) && (not (nat_eq b 42) && (not (nat_eq b 44)
    && (not (nat_eq b 58) && (not (nat_eq b 61) && (not (nat_eq b 63) && not (nat_eq b 64))))))))

-- a name has 1 to 16 such bytes
pub record IsName (name : List ℕ) : Type 0 where
  pub low : 1 ≤ length name
  pub high : length name ≤ 16
  pub bytes : AllByRecursion (λ b. IsTrue (is_name_byte b)) name

-- the contents of a text of open: a name, and a record length if one is given
pub record Wish : Type 0 where
  pub name : List ℕ
  pub length : Option ℕ

-- ,L, and one byte of 1 to 254
pub record IsTail (tail : List ℕ) (l : ℕ) : Type 0 where
  pub spelled : tail ≡ codes ",L," ++ l ∷ []
  pub low : 1 ≤ l
  pub high : l ≤ 254

-- NAME, or NAME,L, and one byte of 1 to 254
abbrev pub IsSpelled : List ℕ → List ℕ → Option ℕ → Type 0
IsSpelled text name None = text ≡ name
IsSpelled text name (Some l) = (tail : List ℕ) × (text ≡ name ++ tail) × IsTail tail l

-- the text is that of open for this wish: a name, or a name and a record length
abbrev pub IsWish : List ℕ → Wish → Type 0
IsWish text w = IsName w.name × IsSpelled text w.name w.length

-- V, V0, VALIDATE, VALIDATE0
abbrev pub IsValidate : List ℕ → Type 0
IsValidate text = (text ≡ codes "V") ⊎ (text ≡ codes "V0") ⊎ (text ≡ codes "VALIDATE") ⊎ (text ≡ codes "VALIDATE0")

-- I, I0, INITIALIZE, INITIALIZE0
abbrev pub IsInitialize : List ℕ → Type 0
IsInitialize text = (text ≡ codes "I") ⊎ (text ≡ codes "I0") ⊎ (text ≡ codes "INITIALIZE")
    ⊎ (text ≡ codes "INITIALIZE0")

-- it begins with P
abbrev pub BeginsWithP : List ℕ → Type 0
BeginsWithP text = (rest : List ℕ) × (text ≡ 80 ∷ rest)

-- the channel that a P names, modulo 16
abbrev pub wanted_channel : List ℕ → ℕ
wanted_channel text = slice_index text 1 % 16

-- the record that a P names: low byte first, and 0 counts as 1
abbrev pub wanted_record : List ℕ → ℕ
wanted_record text = max 1 (slice_index text 2 + 256 * slice_index text 3)

-- the position that a P names, counted from 1: 1 if there is none, and 0 counts as 1
abbrev pub wanted_position : List ℕ → ℕ
wanted_position text = max 1 (slice_index_or text 4 1)
