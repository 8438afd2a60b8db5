-- A text of open asks for one thing.
use Rattle.std.proofs.Common.{
  ℕ,
  ◌≡◌,
  ◌<◌,
  List,
  [],
  ◌∷◌,
  ◌++◌,
  None,
  Option,
  Some,
  IsTrue,
  drop,
  get_or,
  length,
  slice_index,
  take,
  length-append,
  sym,
  ◌∙◌,
  ap,
  ap₂,
  subst,
  refl,
  arith,
}
use Rattle.std.proofs.lemmas.List.{take-append-drop}
use Rattle.std.specs.List.{AllByRecursion}
use Rattle.drive_channels.specs.Spelling.{IsName, IsSpelled, IsTail, IsWish, Wish, is_name_byte}

-- a name has no comma
no-comma : (n rest : List ℕ) → slice_index rest 0 ≡ 44 → AllByRecursion (λ b. IsTrue (is_name_byte b)) (n ++ rest) → ⊥
no-comma [] [] e a = absurd (omega (arith, e))
no-comma [] (x ∷ rest) e a = comma (subst (λ (b : ℕ). IsTrue (is_name_byte b)) e a.0)
  where
    comma : IsTrue (is_name_byte 44) → ⊥
    comma h = cc
no-comma (x ∷ n) rest e a = no-comma n rest e a.1

-- so a name asks for no length
not-both : (a b : List ℕ) (l : ℕ) (tail : List ℕ) → IsName a → a ≡ b ++ tail → IsTail tail l → ⊥
not-both a b l tail name e t = no-comma b tail (ap (λ (xs : List ℕ). slice_index xs 0) t.spelled)
    (subst (AllByRecursion (λ b. IsTrue (is_name_byte b))) e name.bytes)

pub name-plain : (name : List ℕ) → IsName name → (w : Wish) → IsWish name w → w.length ≡ None
name-plain name h w is = by w.length is.1
  where
    by : (o : Option ℕ) → IsSpelled name w.name o → o ≡ None
    by None e = refl
    by (Some l) e = absurd (not-both name w.name l e.0 h e.1 e.2)

-- lists that are equal, and have tails of one length, are equal in both parts
parts : (a b s t : List ℕ) → length s ≡ length t → a ++ s ≡ b ++ t → (a ≡ b) × (s ≡ t)
parts [] [] s t long e = (refl, e)
parts [] (y ∷ b) s t long e = absurd (omega (arith, ap length e, length-append b t, long))
parts (x ∷ a) [] s t long e = absurd (omega (arith, ap length e, length-append a s, long))
parts (x ∷ a) (y ∷ b) s t long e =
    let rest = parts a b s t long (ap (drop 1) e) in
    (ap₂ (λ (z : ℕ) (zs : List ℕ). z ∷ zs) (ap (λ (xs : List ℕ). get_or xs 0 0) e) rest.0, rest.1)

four : (tail : List ℕ) (l : ℕ) → IsTail tail l → length tail ≡ 4
four tail l t = ap length t.spelled

one : (text a b : List ℕ) (m n : Option ℕ) → IsName a → IsName b → IsSpelled text a m → IsSpelled text b n → (a ≡ b)
    × (m ≡ n)
one text a b None None x y e h = (sym e ∙ h, refl)
one text a b None (Some l) x y e h = absurd (not-both a b l h.0 x (sym e ∙ h.1) h.2)
one text a b (Some l) None x y e h = absurd (not-both b a l e.0 y (sym h ∙ e.1) e.2)
one text a b (Some l) (Some k) x y e h =
    let p = parts a b e.0 h.0 (four e.0 l e.2 ∙ sym (four h.0 k h.2)) (sym e.1 ∙ h.1) in
    (p.0, ap (λ (xs : List ℕ). Some (slice_index xs 3)) (sym e.2.spelled ∙ p.1 ∙ h.2.spelled))

-- a text asks for one thing
pub wish-one : (text : List ℕ) (v w : Wish) → IsWish text v → IsWish text w → v ≡ w
wish-one text v w x y = let p = one text v.name w.name v.length w.length x.0 y.0 x.1 y.1 in
    ap₂ (λ (name : List ℕ) (length : Option ℕ). record { name = name; length = length }) p.0 p.1

-- what is shorter than a tail, and no name, asks for nothing
pub too-short : (text : List ℕ) → length text < 4 → ¬ (IsName text) → (w : Wish) → ¬ (IsWish text w)
too-short text short plain w wish = by w.length wish.1
  where
    by : (o : Option ℕ) → IsSpelled text w.name o → ⊥
    by None e = plain (subst IsName (sym e) wish.0)
    by (Some l) e = absurd (omega (arith, ap length e.1, length-append w.name e.0, four e.0 l e.2, short))

-- nor what is no name and doesn't end as one with a length
pub no-wish : (text front back : List ℕ) → text ≡ front ++ back → length back ≡ 4 → ¬ (IsName text)
    → (IsName front → (l : ℕ) → ¬ (IsTail back l)) → (w : Wish) → ¬ (IsWish text w)
no-wish text front back is long plain none w wish = by w.length wish.1
  where
    by : (o : Option ℕ) → IsSpelled text w.name o → ⊥
    by None e = plain (subst IsName (sym e) wish.0)
    by (Some l) e = let p = parts w.name front e.0 back (four e.0 l e.2 ∙ sym long) (sym e.1 ∙ is) in
        none (subst IsName p.0 wish.0) l (subst (λ (t : List ℕ). IsTail t l) p.1 e.2)

-- a text in two parts
pub in-two : (text front back : List ℕ) (i : ℕ) → front ≡ take i text → back ≡ drop i text → text ≡ front ++ back
in-two text front back i first rest = sym (ap₂ (λ (a b : List ℕ). a ++ b) first rest ∙ take-append-drop i text)
