-- What comes of records that are stored from their lines. All of it is our own.
use Rattle.std.specs.Prelude.{◌≡◌, ◌≢◌, ◌≤◌, ◌⊎◌, Bool, false, ℕ, suc, ◌+◌, ◌-◌, ◌||◌, ◌++◌, List, [], ◌∷◌, Some}
use Rattle.std.specs.Prelude.{bytes_eq, get_or, if◌then◌else◌, length, max, nat_eq, not, slice_get, slice_index}
use Rattle.std.specs.List.{AllByRecursion}
use Rattle.line_text.specs.bytes.Lines.{IsLineOf, padded}
use Rattle.line_text.specs.bytes.Texts.{AreBytes, record_line, trimmed}
use Rattle.rel_records.specs.Written.{with_half, with_written}
use Rattle.rel_records.specs.growth.Growth.{blocks_for}

-- a record as a line gives it
pub record NewRecord : Type 0 where
  pub number : ℕ
  pub bytes : List ℕ

-- the record with this number and these bytes
abbrev pub new_record : ℕ → List ℕ → NewRecord
new_record n bs = record { number = n; bytes = bs }

-- a file that has `had` records of L bytes has record r or can have it
abbrev pub CanHave : ℕ → ℕ → ℕ → Type 0
CanHave L had r = (r ≤ had) ⊎ ((r ≤ 65535) × (blocks_for L r ≤ 720))

-- it has this one or can have it, and its bytes fit
pub record CanStore (L had : ℕ) (x : NewRecord) : Type 0 where
  pub low : 1 ≤ x.number
  pub high : x.number ≤ 182880
  pub bytes : AreBytes x.bytes
  pub short : length x.bytes ≤ L
  pub reach : CanHave L had x.number

-- each of these lines is of one of these records, in order, and such a file can have them
abbrev pub AreLinesOf : ℕ → ℕ → List (List ℕ) → List NewRecord → Type 0
AreLinesOf L had [] [] = Unit {0}
AreLinesOf L had [] (x ∷ xs) = ⊥
AreLinesOf L had (line ∷ lines) [] = ⊥
AreLinesOf L had (line ∷ lines) (x ∷ xs) = IsLineOf line x.number x.bytes × CanStore L had x × AreLinesOf L had lines xs

-- line k of these, counted from 1, is the first that is of no record that such a file can have
pub record IsFirstBad (L had : ℕ) (lines : List (List ℕ)) (k : ℕ) : Type 0 where
  pub front : List (List ℕ)
  pub line : List ℕ
  pub back : List (List ℕ)
  pub split : lines ≡ front ++ line ∷ back
  pub count : k ≡ length front + 1
  pub good : (xs : List NewRecord) × AreLinesOf L had front xs
  pub bad : (x : NewRecord) → CanStore L had x → ¬ (IsLineOf line x.number x.bytes)

-- no two of these are of one record
abbrev pub AreApart : List NewRecord → Type 0
AreApart [] = Unit {0}
AreApart (x ∷ xs) = AllByRecursion (λ y. y.number ≢ x.number) xs × AreApart xs

-- one of these is of record n
abbrev pub is_among : ℕ → List NewRecord → Bool
is_among n [] = false
is_among n (x ∷ xs) = nat_eq x.number n || is_among n xs

-- those that count: of two of one record the last
abbrev pub last_ones : List NewRecord → List NewRecord
last_ones [] = []
last_ones (x ∷ xs) = if is_among x.number xs then last_ones xs else x ∷ last_ones xs

-- the place of the last one of record n, counted from 1; 0 if there is none
abbrev pub last_place : ℕ → List NewRecord → ℕ
last_place n [] = 0
last_place n (x ∷ xs) =
    if is_among n xs then suc (last_place n xs) else if nat_eq x.number n then 1 else 0

-- the table says for each record that a line can be of which of these is its last one
abbrev pub TellsLast : List ℕ → List NewRecord → Type 0
TellsLast table xs = (n : ℕ) → n ≤ 182880 → slice_index table n ≡ last_place n xs

-- the record at this place, if it is the last one of its number
abbrev pub if_last : List ℕ → ℕ → NewRecord → List NewRecord
if_last table place x = if nat_eq (slice_index table x.number) place then x ∷ [] else []

-- these are records of L bytes
abbrev pub AreRecords : ℕ → List (List ℕ) → Type 0
AreRecords L rs = AllByRecursion (λ r. (length r ≡ L) × AreBytes r) rs

-- the records as their lines give them, the first with number n
abbrev pub numbered : ℕ → List (List ℕ) → List NewRecord
numbered n [] = []
numbered n (r ∷ rs) = new_record n (trimmed r) ∷ numbered (suc n) rs

-- the greatest of the numbers
abbrev pub greatest : List NewRecord → ℕ
greatest [] = 0
greatest (x ∷ xs) = max x.number (greatest xs)

-- these records with one of them stored: the bytes, then zeros
abbrev pub with_stored : ℕ → NewRecord → List (List ℕ) → List (List ℕ)
with_stored L x rs = with_written L x.number 1 x.bytes rs

-- and with all of these, one after another
abbrev pub stored : ℕ → List NewRecord → List (List ℕ) → List (List ℕ)
stored L [] rs = rs
stored L (x ∷ xs) rs = stored L xs (with_stored L x rs)

-- ts is what a prefix of these leaves of rs, or that and the first part of the next record
abbrev pub IsPartStored : ℕ → List NewRecord → List (List ℕ) → List (List ℕ) → Type 0
IsPartStored L [] rs ts = ts ≡ rs
IsPartStored L (x ∷ xs) rs ts =
    (ts ≡ rs) ⊎ ((ts ≡ with_half L x.number 1 x.bytes rs) ⊎ IsPartStored L xs (with_stored L x rs) ts)

-- the record is among these, and is so already
abbrev pub IsSo : ℕ → List (List ℕ) → NewRecord → Type 0
IsSo L rs x = slice_get rs (x.number - 1) ≡ Some (padded L x.bytes)

-- all of them are
abbrev pub AreSo : ℕ → List (List ℕ) → List NewRecord → Type 0
AreSo L rs xs = AllByRecursion (IsSo L rs) xs

-- whether it is otherwise
abbrev pub is_changed : ℕ → NewRecord → List (List ℕ) → Bool
is_changed L x rs = not (bytes_eq (get_or rs (x.number - 1) []) (padded L x.bytes))

-- what is printed of a record: its line, if it changed
abbrev pub changed_line : ℕ → NewRecord → List (List ℕ) → List ℕ
changed_line L x rs = if is_changed L x rs then record_line x.number x.bytes else []

-- and of all of them, in order
abbrev pub changed_text : ℕ → List NewRecord → List (List ℕ) → List ℕ
changed_text L [] rs = []
changed_text L (x ∷ xs) rs = changed_line L x rs ++ changed_text L xs (with_stored L x rs)
