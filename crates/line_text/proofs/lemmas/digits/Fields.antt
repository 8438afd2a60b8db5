-- Fields: what is cut at commas, and the numbers and kinds in it.
use Rattle.std.proofs.Common.{◌≡◌, ◌≢◌, ℕ, ◌^◌, ◌-◌, ◌<◌, ◌≤◌, Bool, true, false, List, [], ◌∷◌, ◌++◌, length, take}
use Rattle.std.proofs.Common.{drop, get_or, refl, sym, ◌∙◌, ap, subst, inl, inr, arith, Option, Some, None, append-nil}
use Rattle.std.proofs.Common.{eq-eqb, ne_eqb}
use Rattle.std.specs.Prelude.{◌&&◌, if◌then◌else◌, nat_le, decimal, option_map, bytes_eq}
use Rattle.std.specs.Bool.{Decides}
use Rattle.std.specs.Str.Parse.{AllDigits, digits_value}
use Rattle.std.proofs.lemmas.Bool.Decides.{leb_tells, eqb_tells, Decides-and}
use Rattle.std.proofs.lemmas.Fmt.{decimal_is_IsNumeral}
use Rattle.std.proofs.lemmas.List.{take_all}
use Rattle.std.proofs.lemmas.Slice.Eq.{bytes_eq-Decides}
use Rattle.std.proofs.lemmas.Str.Parse.{digit_from_value}
use Rattle.line_text.specs.Numbers.{◌>>=◌, cut_at, number_in, number_before, Leads}

-- what a step found led to what the next one found
pub bind_ok : {A B : Type 0} (o : Option A) (f : A → Option B) (y : B) → (o >>= f) ≡ Some y
    → (x : A) × (o ≡ Some x) × (f x ≡ Some y)
bind_ok (Some x) f y e = (x, refl, e)
bind_ok None f y e = cc

-- the same of a step that can't fail
pub map_ok : {A B : Type 0} (f : A → B) (o : Option A) (y : B) → option_map f o ≡ Some y
    → (x : A) × (o ≡ Some x) × (f x ≡ y)
map_ok f (Some x) y e = (x, refl, cc)
map_ok f None y e = cc

-- what has no value is None
pub none_of : {A : Type 0} (o : Option A) → ((x : A) → o ≡ Some x → ⊥) → o ≡ None
none_of (Some x) h = absurd (h x refl)
none_of None h = refl

-- no byte of the field is c
abbrev pub Lacks : ℕ → List ℕ → Type 0
Lacks c [] = Unit {0}
Lacks c (x ∷ xs) = (x ≢ c) × Lacks c xs

-- digits have no comma
digits_lack : (xs : List ℕ) → AllDigits 10 xs → Lacks 44 xs
digits_lack [] d = tt
digits_lack (x ∷ xs) d = ((λ e. let h = digit_from_value x d.0 in omega (arith, h.0)), digits_lack xs d.1)

pub decimal_lacks : (n : ℕ) → n < 2 ^ 64 → Lacks 44 (decimal n)
decimal_lacks n h = digits_lack (decimal n) (decimal_is_IsNumeral n h).0.1

-- a field without c is cut before the c that follows it
pub cut_at_field : (c : ℕ) (xs ys : List ℕ) → Lacks c xs → cut_at c (xs ++ c ∷ ys) ≡ Some (xs, ys)
cut_at_field c [] ys l = rw (eq-eqb c c refl) refl
cut_at_field c (x ∷ xs) ys l = rw (ne_eqb x c l.0, cut_at_field c xs ys l.1) refl

-- what was cut is joined by c again
pub cut_at_joins : (c : ℕ) (bs : List ℕ) (p : List ℕ × List ℕ) → cut_at c bs ≡ Some p
    → bs ≡ p.0 ++ c ∷ p.1
cut_at_joins c [] p e = cc
cut_at_joins c (b ∷ bs) p e = elim (eqb_tells b c) [
  | inl h ↦
      let here : Some ([], bs) ≡ Some p = rw h.0 at e in
      let same : ([], bs) ≡ p = cc in
      ap (λ x. x ∷ bs) h.1 ∙ ap (λ (q : List ℕ × List ℕ). q.0 ++ c ∷ q.1) same
  | inr h ↦
      let there : option_map (λ (p : List ℕ × List ℕ). (b ∷ p.0, p.1)) (cut_at c bs) ≡ Some p =
      rw h.0 at e in
      let m = map_ok (λ (p : List ℕ × List ℕ). (b ∷ p.0, p.1)) (cut_at c bs) p there in
      ap (λ xs. b ∷ xs) (cut_at_joins c bs m.0 m.1) ∙ ap (λ (q : List ℕ × List ℕ). q.0 ++ c ∷ q.1) m.2
]

-- the number of this range has this text
abbrev pub Spells : ℕ → ℕ → List ℕ → ℕ → Type 0
Spells low high f n = (low ≤ n) × ((n ≤ high) × (f ≡ decimal n))

pub Decides-leb : (x y : ℕ) → Decides (nat_le x y) (x ≤ y)
Decides-leb x y = elim (leb_tells x y) [
  | inl h ↦ ((λ _. h.1), (λ _. h.0))
  | inr h ↦ ((λ e. cc), (λ le. absurd (omega (arith, le))))
]

spells_decides : (low high : ℕ) (f : List ℕ) (n : ℕ)
    → Decides (nat_le low n && (nat_le n high && bytes_eq f (decimal n))) (Spells low high f n)
spells_decides low high f n =
    Decides-and _ _ (Decides-leb low n)
    (Decides-and _ _ (Decides-leb n high) (bytes_eq-Decides f (decimal n)))

-- the text of a number of the range is read
pub number_in_found : (low high n : ℕ) (f : List ℕ) → n < 2 ^ 64 → Spells low high f n
    → number_in low high f ≡ Some n
unfolding number_in
number_in_found low high n f h s =
    let value : digits_value 10 f ≡ n = ap (digits_value 10) s.1.1 ∙ (decimal_is_IsNumeral n h).1 in
    rw value (rw ((spells_decides low high f n).1 s) refl)

pub if_some : {A : Type 0} (b : Bool) (x y : A) → (if b then Some x else None) ≡ Some y
    → (b ≡ true) × (x ≡ y)
if_some true x y e = (refl, cc)
if_some false x y e = cc

-- what is read is the text of a number of the range
pub number_in_spells : (low high n : ℕ) (f : List ℕ) → number_in low high f ≡ Some n
    → Spells low high f n
unfolding number_in
number_in_spells low high n f e =
    let m = digits_value 10 f in
    let p = if_some (nat_le low m && (nat_le m high && bytes_eq f (decimal m))) m n e in
    subst (λ (m : ℕ). Spells low high f m) p.1 ((spells_decides low high f (digits_value 10 f)).0 p.0)

-- a number of the range that is the whole field is read
pub number_read : (low high n : ℕ) (field rest : List ℕ) → low ≤ n → n ≤ high → Leads field n rest
    → rest ≡ [] → number_in low high field ≡ Some n
number_read low high n field rest h g l empty =
    let text = l.text ∙ ap (λ (xs : List ℕ). decimal n ++ xs) empty ∙ append-nil (decimal n) in
    number_in_found low high n field (omega (arith, l.short)) (h, (g, text))

-- where none is the whole field, none is read
pub number_refused : (low high : ℕ) (field : List ℕ) → high < 2 ^ 32
    → ((n : ℕ) → low ≤ n → n ≤ high → ¬ (Leads field n [])) → number_in low high field ≡ None
number_refused low high field h none = none_of _ (λ n e.
    let s = number_in_spells low high n field e in
    none n s.0 s.1.0 (record {
      short = omega (arith, s.1.0);
      text = s.1.1 ∙ sym (append-nil (decimal n));
      ends = λ digit. omega (arith, digit.0);
    }))

-- the text of a number of the range, before a comma, is read
pub number_text : (low high n : ℕ) (rest : List ℕ) → n < 2 ^ 64 → low ≤ n → n ≤ high
    → number_before low high (decimal n ++ 44 ∷ rest) ≡ Some (n, rest)
unfolding number_before
number_text low high n rest h low_ok high_ok =
    let field = decimal n in
    let found = number_in_found low high n field h (low_ok, (high_ok, refl)) in
    rw (cut_at_field 44 field rest (decimal_lacks n h), found) refl

-- a number of the range before a comma is read
pub before_read : (low high n : ℕ) (bytes rest : List ℕ) → low ≤ n → n ≤ high
    → Leads bytes n (44 ∷ rest) → number_before low high bytes ≡ Some (n, rest)
before_read low high n bytes rest h g l =
    ap (number_before low high) l.text ∙ number_text low high n rest (omega (arith, l.short)) h g

-- what was read stands before a comma
pub before_spells : (low high : ℕ) (bytes : List ℕ) (p : ℕ × List ℕ)
    → number_before low high bytes ≡ Some p
    → (low ≤ p.0) × ((p.0 ≤ high) × (bytes ≡ decimal p.0 ++ 44 ∷ p.1))
unfolding number_before
before_spells low high bytes p e =
    let a = bind_ok (cut_at 44 bytes) _ p e in
    let b = bind_ok (number_in low high a.0.0) _ p a.2 in
    let s = number_in_spells low high b.0 a.0.0 b.1 in
    let same : (b.0, a.0.1) ≡ p = cc (b.2) in
    let text : bytes ≡ decimal b.0 ++ 44 ∷ a.0.1 =
    cut_at_joins 44 bytes a.0 a.1 ∙ ap (λ (xs : List ℕ). xs ++ 44 ∷ a.0.1) s.1.1 in
    let P : ℕ × List ℕ → Type 0 =
    λ q. (low ≤ q.0) × ((q.0 ≤ high) × (bytes ≡ decimal q.0 ++ 44 ∷ q.1)) in
    subst P same (s.0, (s.1.0, text))

-- where none stands before a comma, none is read
pub before_refused : (low high : ℕ) (bytes : List ℕ) → high < 2 ^ 32
    → ((n : ℕ) (rest : List ℕ) → low ≤ n → n ≤ high → ¬ (Leads bytes n (44 ∷ rest)))
    → number_before low high bytes ≡ None
before_refused low high bytes h none = none_of _ (λ p e.
    let s = before_spells low high bytes p e in
    none p.0 p.1 s.0 s.1.0 (record {
      short = omega (arith, s.1.0);
      text = s.1.1;
      ends = λ digit. omega (arith, digit.0);
    }))

-- a comma at the front, and all that follows it
pub comma_first : (bytes : List ℕ) → 1 ≤ length bytes → get_or bytes 0 0 ≡ 44
    → bytes ≡ 44 ∷ take (length bytes - 1) (drop 1 bytes)
comma_first [] long e = absurd (omega (arith, long))
comma_first (x ∷ rest) long e =
    ap (λ b. b ∷ rest) e ∙ ap (λ t. 44 ∷ t) (sym (take_all (length (x ∷ rest) - 1) rest (omega arith)))

-- a list without length is empty
pub empty_of : (xs : List ℕ) → length xs ≡ 0 → xs ≡ []
empty_of [] e = refl
empty_of (x ∷ xs) e = absurd (omega (arith, e))
