-- Of two records of one number the last counts: what is stored of them, and how they are told.
use Rattle.std.proofs.Common.{◌≡◌, ◌≢◌, ◌≤◌, ◌<◌, ◌+◌, ◌-◌, ℕ, zero, suc, List, [], ◌∷◌, ◌++◌, Bool, true, false}
use Rattle.std.proofs.Common.{length, set, refl, subst, sym, ap, ap₂, ◌∙◌, arith, eq-eqb, ne_eqb, inl, inr}
use Rattle.std.specs.List.{AllByRecursion}
use Rattle.std.specs.Prelude.{◌||◌, if◌then◌else◌, max, nat_eq}
use Rattle.std.proofs.lemmas.Bool.{cases_Bool, cases_eq}
use Rattle.line_text.specs.bytes.Lines.{padded}
use Rattle.disk_changes.specs.lines.Stores.{AreApart, AreLinesOf, NewRecord, greatest, is_among, last_ones}
use Rattle.disk_changes.specs.lines.Stores.{last_place, stored, with_stored}

-- all of them have a number of a record
abbrev pub AreNumbers : List NewRecord → Type 0
AreNumbers xs = AllByRecursion (λ x. 1 ≤ x.number) xs

pub lines-numbers : (L had : ℕ) (ls : List (List ℕ)) (xs : List NewRecord) → AreLinesOf L had ls xs → AreNumbers xs
lines-numbers L had [] [] are = tt
lines-numbers L had [] (x ∷ xs) are = absurd are
lines-numbers L had (l ∷ ls) [] are = absurd are
lines-numbers L had (l ∷ ls) (x ∷ xs) are = (are.1.low, lines-numbers L had ls xs are.2)

-- those that count, where the first is followed by another of its record, and where it isn't
pub ones-skip : (x : NewRecord) (xs : List NewRecord) → is_among x.number xs ≡ true → last_ones (x ∷ xs) ≡ last_ones xs
ones-skip x xs among = ap (λ (b : Bool). if b then last_ones xs else x ∷ last_ones xs) among

pub ones-keep : (x : NewRecord) (xs : List NewRecord) → is_among x.number xs ≡ false
    → last_ones (x ∷ xs) ≡ x ∷ last_ones xs
ones-keep x xs none = ap (λ (b : Bool). if b then last_ones xs else x ∷ last_ones xs) none

-- a property of all holds of those that count
pub ones-all : (P : NewRecord → Type 0) (xs : List NewRecord) → AllByRecursion P xs → AllByRecursion P (last_ones xs)
ones-all P [] all = tt
ones-all P (x ∷ xs) all = pick (is_among x.number xs) (ones-all P xs all.1)
  where
    pick : (b : Bool) → AllByRecursion P (last_ones xs)
        → AllByRecursion P (if b then last_ones xs else x ∷ last_ones xs)
    pick true rest = rest
    pick false rest = (all.0, rest)

-- none has the number, or one has
pub none-among : (n : ℕ) (xs : List NewRecord) → is_among n xs ≡ false → AllByRecursion (λ y. y.number ≢ n) xs
none-among n [] none = tt
none-among n (x ∷ xs) none = elim (cases_eq x.number n) [
  | inl same ↦ let yes : is_among n (x ∷ xs) ≡ true = ap (λ (b : Bool). b || is_among n xs) (eq-eqb x.number n same) in
      cc
  | inr other ↦
      let rest : is_among n (x ∷ xs) ≡ is_among n xs =
      ap (λ (b : Bool). b || is_among n xs) (ne_eqb x.number n other) in
      (other, none-among n xs (sym rest ∙ none))
]

pub among-none : (n : ℕ) (xs : List NewRecord) → AllByRecursion (λ y. y.number ≢ n) xs → is_among n xs ≡ false
among-none n [] none = refl
among-none n (x ∷ xs) none =
    ap₂ (λ (a b : Bool). a || b) (ne_eqb x.number n none.0) (among-none n xs none.1)

-- no two of those that count are of one record; where no two of all are, all count
pub ones-apart : (xs : List NewRecord) → AreApart (last_ones xs)
ones-apart [] = tt
ones-apart (x ∷ xs) = elim (cases_Bool (is_among x.number xs)) [
  | inl among ↦ subst AreApart (sym (ones-skip x xs among)) (ones-apart xs)
  | inr none ↦ subst AreApart (sym (ones-keep x xs none))
      (ones-all (λ y. y.number ≢ x.number) xs (none-among x.number xs none), ones-apart xs)
]

pub apart-ones : (xs : List NewRecord) → AreApart xs → last_ones xs ≡ xs
apart-ones [] apart = refl
apart-ones (x ∷ xs) apart =
    ones-keep x xs (among-none x.number xs apart.0) ∙ ap (λ (ys : List NewRecord). x ∷ ys) (apart-ones xs apart.1)

-- the greatest of the numbers is one of them
greatest-among : (n : ℕ) (xs : List NewRecord) → is_among n xs ≡ true → n ≤ greatest xs
greatest-among n [] among = cc
greatest-among n (x ∷ xs) among = elim (cases_eq x.number n) [
  | inl same ↦ omega (arith, same)
  | inr other ↦
      let rest : is_among n (x ∷ xs) ≡ is_among n xs =
      ap (λ (b : Bool). b || is_among n xs) (ne_eqb x.number n other) in
      omega (arith, greatest-among n xs (sym rest ∙ among))
]

pub ones-greatest : (xs : List NewRecord) → greatest (last_ones xs) ≡ greatest xs
ones-greatest [] = refl
ones-greatest (x ∷ xs) = elim (cases_Bool (is_among x.number xs)) [
  | inl among ↦ ap greatest (ones-skip x xs among) ∙ omega (arith, ones-greatest xs, greatest-among x.number xs among)
  | inr none ↦ ap greatest (ones-keep x xs none) ∙ ap (max x.number) (ones-greatest xs)
]

-- a record that is stored again behind is stored there alone
set-twice : {X : Type 0} (xs : List X) (i : ℕ) (y z : X) → set (set xs i y) i z ≡ set xs i z
set-twice [] i y z = refl
set-twice (x ∷ xs) zero y z = refl
set-twice (x ∷ xs) (suc i) y z = ap (λ (ws : List _). x ∷ ws) (set-twice xs i y z)

set-swap : {X : Type 0} (xs : List X) (i j : ℕ) (y z : X) → i ≢ j → set (set xs i y) j z ≡ set (set xs j z) i y
set-swap [] i j y z other = refl
set-swap (x ∷ xs) zero zero y z other = absurd (other refl)
set-swap (x ∷ xs) zero (suc j) y z other = refl
set-swap (x ∷ xs) (suc i) zero y z other = refl
set-swap (x ∷ xs) (suc i) (suc j) y z other =
    ap (λ (ws : List _). x ∷ ws) (set-swap xs i j y z (λ same. other (ap suc same)))

stored-over : (L n : ℕ) (r : List ℕ) (xs : List NewRecord) (rs : List (List ℕ)) → 1 ≤ n → AreNumbers xs
    → is_among n xs ≡ true → stored L xs (set rs (n - 1) r) ≡ stored L xs rs
stored-over L n r [] rs low all among = cc
stored-over L n r (x ∷ xs) rs low all among = elim (cases_eq x.number n) [
  | inl same ↦
      ap (λ (m : ℕ). stored L xs (set (set rs (m - 1) r) (x.number - 1) (padded L x.bytes))) (sym same)
      ∙ ap (stored L xs) (set-twice rs (x.number - 1) r (padded L x.bytes))
  | inr other ↦
      let rest : is_among n (x ∷ xs) ≡ is_among n xs =
      ap (λ (b : Bool). b || is_among n xs) (ne_eqb x.number n other) in
      let apart : n - 1 ≢ x.number - 1 = λ same. other (omega (arith, same, low, all.0)) in
      ap (stored L xs) (set-swap rs (n - 1) (x.number - 1) r (padded L x.bytes) apart)
      ∙ stored-over L n r xs (set rs (x.number - 1) (padded L x.bytes)) low all.1 (sym rest ∙ among)
]

pub stored-ones : (L : ℕ) (xs : List NewRecord) (rs : List (List ℕ)) → AreNumbers xs
    → stored L (last_ones xs) rs ≡ stored L xs rs
stored-ones L [] rs all = refl
stored-ones L (x ∷ xs) rs all = elim (cases_Bool (is_among x.number xs)) [
  | inl among ↦
      ap (λ (ys : List NewRecord). stored L ys rs) (ones-skip x xs among)
      ∙ stored-ones L xs rs all.1
      ∙ sym (stored-over L x.number (padded L x.bytes) xs rs all.0 all.1 among)
  | inr none ↦
      ap (λ (ys : List NewRecord). stored L ys rs) (ones-keep x xs none)
      ∙ stored-ones L xs (with_stored L x rs) all.1
]

-- the place of the last one of a record
place-more : (n : ℕ) (x : NewRecord) (xs : List NewRecord) → is_among n xs ≡ true
    → last_place n (x ∷ xs) ≡ suc (last_place n xs)
place-more n x xs among =
    ap (λ (b : Bool). if b then suc (last_place n xs) else if nat_eq x.number n then 1 else 0) among

place-first : (n : ℕ) (x : NewRecord) (xs : List NewRecord) → x.number ≡ n → is_among n xs ≡ false
    → last_place n (x ∷ xs) ≡ 1
place-first n x xs same none =
    ap₂ (λ (a b : Bool). if a then suc (last_place n xs) else if b then 1 else 0) none (eq-eqb x.number n same)

place-none : (n : ℕ) (x : NewRecord) (xs : List NewRecord) → x.number ≢ n → is_among n xs ≡ false
    → last_place n (x ∷ xs) ≡ 0
place-none n x xs other none =
    ap₂ (λ (a b : Bool). if a then suc (last_place n xs) else if b then 1 else 0) none (ne_eqb x.number n other)

among-here : (n : ℕ) (f : List NewRecord) (x : NewRecord) (b : List NewRecord) → x.number ≡ n
    → is_among n (f ++ x ∷ b) ≡ true
among-here n [] x b same = ap (λ (t : Bool). t || is_among n b) (eq-eqb x.number n same)
among-here n (y ∷ f) x b same = elim (cases_Bool (nat_eq y.number n)) [
  | inl is ↦ ap (λ (t : Bool). t || is_among n (f ++ x ∷ b)) is
  | inr not_is ↦ ap₂ (λ (t u : Bool). t || u) not_is (among-here n f x b same)
]

-- one more behind them
pub place-push : (n : ℕ) (xs : List NewRecord) (x : NewRecord) → x.number ≡ n
    → last_place n (xs ++ x ∷ []) ≡ length xs + 1
place-push n [] x same = place-first n x [] same refl
place-push n (y ∷ xs) x same =
    place-more n y (xs ++ x ∷ []) (among-here n xs x [] same) ∙ omega (arith, place-push n xs x same)

among-push : (n : ℕ) (xs : List NewRecord) (x : NewRecord) → x.number ≢ n
    → is_among n (xs ++ x ∷ []) ≡ is_among n xs
among-push n [] x other = ap (λ (t : Bool). t || false) (ne_eqb x.number n other)
among-push n (y ∷ xs) x other = ap (λ (t : Bool). nat_eq y.number n || t) (among-push n xs x other)

pub place-other : (n : ℕ) (xs : List NewRecord) (x : NewRecord) → x.number ≢ n
    → last_place n (xs ++ x ∷ []) ≡ last_place n xs
place-other n [] x other = place-none n x [] other refl
place-other n (y ∷ xs) x other =
    ap₂ (λ (t : Bool) (m : ℕ). if t then suc m else if nat_eq y.number n then 1 else 0)
    (among-push n xs x other) (place-other n xs x other)

-- a record is the last of its number where no other is behind it
pub place-last : (f : List NewRecord) (x : NewRecord) (b : List NewRecord) → is_among x.number b ≡ false
    → last_place x.number (f ++ x ∷ b) ≡ length f + 1
place-last [] x b none = place-first x.number x b refl none
place-last (y ∷ f) x b none =
    place-more x.number y (f ++ x ∷ b) (among-here x.number f x b refl) ∙ omega (arith, place-last f x b none)

place-some : (n : ℕ) (xs : List NewRecord) → is_among n xs ≡ true → 1 ≤ last_place n xs
place-some n [] among = cc
place-some n (x ∷ xs) among = elim (cases_Bool (is_among n xs)) [
  | inl more ↦ omega (arith, place-more n x xs more)
  | inr none ↦ elim (cases_eq x.number n) [
    | inl same ↦ omega (arith, place-first n x xs same none)
    | inr other ↦
        let no : is_among n (x ∷ xs) ≡ false = ap₂ (λ (t u : Bool). t || u) (ne_eqb x.number n other) none in cc
  ]
]

pub place-behind : (f : List NewRecord) (x : NewRecord) (b : List NewRecord) → is_among x.number b ≡ true
    → length f + 1 < last_place x.number (f ++ x ∷ b)
place-behind [] x b among = omega (arith, place-more x.number x b among, place-some x.number b among)
place-behind (y ∷ f) x b among =
    omega (arith, place-more x.number y (f ++ x ∷ b) (among-here x.number f x b refl), place-behind f x b among)
