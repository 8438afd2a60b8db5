-- The function that reads lines is the grammar of lines.
use Rattle.std.proofs.Common.{
  ◌≡◌,
  ◌≢◌,
  ◌<◌,
  ◌≤◌,
  inl,
  inr,
  ⊎_elim,
  ℕ,
  Bool,
  true,
  false,
  List,
  [],
  ◌∷◌,
  ◌++◌,
  ◌^◌,
  Option,
  Some,
  None,
  refl,
  sym,
  ◌∙◌,
  ap,
  subst,
  append-nil,
  length,
  arith,
  eq-eqb,
  ne_eqb,
}
use Rattle.std.specs.Prelude.{decimal, nat_le, flat_map, map, if◌then◌else◌, ◌==◌}
use Rattle.std.specs.List.{AllByRecursion}
use Rattle.std.proofs.lemmas.Bool.Decides.{eqb_tells}
use Rattle.std.specs.Str.Parse.{AllDigits}
use Rattle.std.proofs.lemmas.Fmt.{decimal_is_IsNumeral}
use Rattle.std.proofs.lemmas.Str.Parse.{digit_from_value}
use Rattle.line_text.specs.Numbers.{cut_at, number_in, ◌>>=◌}
use Rattle.line_text.proofs.lemmas.digits.Fields.{Lacks, bind_ok, cut_at_field, cut_at_joins, if_some}
use Rattle.line_text.proofs.lemmas.digits.Fields.{number_in_found, number_in_spells}
use Rattle.line_text.specs.scripts.Lines.{onto_first, split}
use Rattle.line_text.specs.scripts.Resets.{Line, IsReset, IsLine, slashed, counts_of, reset_with, reset_of, line_of}
use Rattle.line_text.proofs.lemmas.scripts.Lines.{split_piece, split_whole}

-- pieces joined by a byte
abbrev joined : ℕ → List (List ℕ) → List ℕ
joined c [] = []
joined c (p ∷ ps) = p ++ flat_map (λ q. c ∷ q) ps

joined_first : (c b : ℕ) (ps : List (List ℕ)) → ps ≢ [] → joined c (onto_first b ps) ≡ b ∷ joined c ps
joined_first c b [] some = absurd (some refl)
joined_first c b (p ∷ ps) some = refl

split_some : (c : ℕ) (bs : List ℕ) → split c bs ≢ []
split_some c [] e = cc
split_some c (b ∷ bs) e = pick (b == c) (split c bs) (split_some c bs) e
  where
    pick : (t : Bool) (ps : List (List ℕ)) → ps ≢ [] → (if t then [] ∷ ps else onto_first b ps) ≢ []
    pick true ps some e = cc
    pick false [] some e = some refl
    pick false (p ∷ ps) some e = cc

-- what was split is joined again
split_joins : (c : ℕ) (bs : List ℕ) → bs ≡ joined c (split c bs)
split_joins c [] = refl
split_joins c (b ∷ bs) = elim (eqb_tells b c) [
  | inl h ↦ rw h.0 (ap (λ x. x ∷ bs) h.1 ∙ ap (λ xs. c ∷ xs) (split_joins c bs) ∙ front (split c bs) (split_some c bs))
  | inr h ↦ rw h.0 (ap (λ xs. b ∷ xs) (split_joins c bs) ∙ sym (joined_first c b (split c bs) (split_some c bs)))
]
  where
    front : (ps : List (List ℕ)) → ps ≢ [] → c ∷ joined c ps ≡ joined c ([] ∷ ps)
    front [] some = absurd (some refl)
    front (p ∷ ps) some = refl

-- numbers that were read have these texts
counts_spell : (fs : List (List ℕ)) (ns : List ℕ) → counts_of fs ≡ Some ns → (fs ≡ map decimal ns)
    × AllByRecursion (λ m. m ≤ 99999) ns
counts_spell [] [] e = (refl, tt)
counts_spell [] (n ∷ ns) e = cc
counts_spell (f ∷ fs) ms e =
    let a = bind_ok (number_in 0 99999 f) (λ n. counts_of fs >>= (λ ns. Some (n ∷ ns))) ms e in
    let b = bind_ok (counts_of fs) (λ ns. Some (a.0 ∷ ns)) ms a.2 in
    let s = number_in_spells 0 99999 a.0 f a.1 in
    let rest = counts_spell fs b.0 b.1 in
    let same : a.0 ∷ b.0 ≡ ms = cc (b.2) in
    subst (λ (xs : List ℕ). (f ∷ fs ≡ map decimal xs) × AllByRecursion (λ m. m ≤ 99999) xs) same
    (ap (λ x. x ∷ fs) s.1.1 ∙ ap (λ xs. decimal a.0 ∷ xs) rest.0, (s.1.0, rest.1))

joined_slashed : (ns : List ℕ) → flat_map (λ q. 47 ∷ q) (map decimal ns) ≡ slashed ns
joined_slashed [] = refl
joined_slashed (n ∷ ns) = ap (λ xs. (47 ∷ decimal n) ++ xs) (joined_slashed ns)

reset_with_spells : (message : List ℕ) (ns : List ℕ) (l : Line) → reset_with message ns ≡ Some l
    → (k : ℕ) × (rs : List ℕ) × (ns ≡ k ∷ rs) × (length rs ≤ 8)
    × (l ≡ record { message = message; reset = Some (k, rs) })
reset_with_spells message [] l e = cc
reset_with_spells message (k ∷ rs) l e =
    let p = if_some (nat_le (length rs) 8) (record { message = message; reset = Some (k, rs) }) l e in
    (k, rs, refl, grind (arith, p.0), sym p.1)

-- what is read as a reset is in the grammar
reset_spells : (bytes : List ℕ) (l : Line) → reset_of bytes ≡ Some l
    → (k : ℕ) × (rs : List ℕ) × (message : List ℕ) × IsReset (64 ∷ bytes) k rs message
    × (l ≡ record { message = message; reset = Some (k, rs) })
unfolding reset_of
reset_spells bytes l e =
    let a = bind_ok (cut_at 32 bytes) (λ c. counts_of (split 47 c.0) >>= (λ ns. reset_with c.1 ns)) l e in
    let b = bind_ok (counts_of (split 47 a.0.0)) (λ ns. reset_with a.0.1 ns) l a.2 in
    let w = reset_with_spells a.0.1 b.0 l b.2 in
    let s = counts_spell (split 47 a.0.0) b.0 b.1 in
    let all : AllByRecursion (λ m. m ≤ 99999) (w.0 ∷ w.1) = subst (AllByRecursion (λ m. m ≤ 99999)) {y = w.0 ∷ w.1} w.2
    s.1 in
    let counts : a.0.0 ≡ decimal w.0 ++ slashed w.1 =
    split_joins 47 a.0.0 ∙ ap (joined 47) (s.0 ∙ ap (map decimal) w.2)
    ∙ ap (λ xs. decimal w.0 ++ xs) (joined_slashed w.1) in (
      w.0,
      w.1,
      a.0.1,
      record {
        text = ap (λ xs. 64 ∷ xs) (cut_at_joins 32 bytes a.0 a.1 ∙ ap (λ xs. xs ++ 32 ∷ a.0.1) counts);
        most = all.0;
        few = w.3;
        each = all.1;
      },
      w.4,
    )

pub line_spells : (bytes : List ℕ) (l : Line) → line_of bytes ≡ Some l → IsLine bytes l
line_spells [] l e = inl ((λ z. cc), cc)
line_spells (b ∷ bytes) l e = elim (eqb_tells b 64) [
  | inl h ↦ let r = reset_spells bytes l (rw h.0 at e) in
      inr (r.0, r.1, r.2, subst (λ x. IsReset (x ∷ bytes) r.0 r.1 r.2) (sym h.1) r.3, r.4)
  | inr h ↦ let x : Some (record { message = b ∷ bytes; reset = None }) ≡ Some l = rw h.0 at e in
      inl (h.1, cc)
]

-- no digit is c
digits_without : (c : ℕ) → c < 48 → (xs : List ℕ) → AllDigits 10 xs → Lacks c xs
digits_without c low [] d = tt
digits_without c low (x ∷ xs) d = (
  (λ e. let h = digit_from_value x d.0 in omega (arith, h.0, low)),
  digits_without c low xs d.1,
)

decimal_without : (c n : ℕ) → c < 48 → n < 2 ^ 64 → Lacks c (decimal n)
decimal_without c n low h = digits_without c low (decimal n) (decimal_is_IsNumeral n h).0.1

lacks_both : (c : ℕ) (xs ys : List ℕ) → Lacks c xs → Lacks c ys → Lacks c (xs ++ ys)
lacks_both c [] ys l m = m
lacks_both c (x ∷ xs) ys l m = (l.0, lacks_both c xs ys l.1 m)

other_byte : (x y : ℕ) → x < y → y ≢ x
other_byte x y lt e = omega (arith, lt, e)

below_word : (n : ℕ) → n ≤ 99999 → n < 2 ^ 64
below_word n le = omega (arith, le)

slashed_without : (rs : List ℕ) → AllByRecursion (λ m. m ≤ 99999) rs → Lacks 32 (slashed rs)
slashed_without [] all = tt
slashed_without (r ∷ rs) all = (
  other_byte 32 47 (omega arith),
  lacks_both 32 (decimal r) (slashed rs) (decimal_without 32 r (omega arith) (below_word r all.0))
      (slashed_without rs all.1),
)

-- numbers behind slashes are their texts, cut at the slashes
split_slashed : (k : ℕ) (rs : List ℕ) → k ≤ 99999 → AllByRecursion (λ m. m ≤ 99999) rs
    → split 47 (decimal k ++ slashed rs) ≡ map decimal (k ∷ rs)
split_slashed k [] most all = ap (split 47) (append-nil (decimal k))
    ∙ split_whole 47 (decimal k) (decimal_without 47 k (omega arith) (below_word k most))
split_slashed k (r ∷ rs) most all =
    split_piece 47 (decimal k) (decimal r ++ slashed rs) (decimal_without 47 k (omega arith) (below_word k most))
    ∙ ap (λ xs. decimal k ∷ xs) (split_slashed r rs all.0 all.1)

-- texts of numbers are read
counts_found : (ns : List ℕ) → AllByRecursion (λ m. m ≤ 99999) ns → counts_of (map decimal ns) ≡ Some ns
counts_found [] all = refl
counts_found (n ∷ ns) all =
    rw (number_in_found 0 99999 n (decimal n) (below_word n all.0) (omega arith, (all.0, refl)), counts_found ns all.1)
    refl

few_taken : (b : Bool) (l : Line) → b ≡ true → (if b then Some l else None) ≡ Some l
few_taken true l e = refl
few_taken false l e = cc

-- a reset in the grammar is read
reset_found : (bytes : List ℕ) (k : ℕ) (rs message : List ℕ) → IsReset (64 ∷ bytes) k rs message
    → reset_of bytes ≡ Some (record { message = message; reset = Some (k, rs) })
unfolding reset_of
reset_found bytes k rs message r =
    let text : bytes ≡ decimal k ++ slashed rs ++ 32 ∷ message = cc (r.text) in
    let front : Lacks 32 (decimal k ++ slashed rs) =
    lacks_both 32 (decimal k) (slashed rs) (decimal_without 32 k (omega arith) (below_word k r.most))
    (slashed_without rs r.each) in
    ap (λ (o : Option (List ℕ × List ℕ)). o >>= (λ c. counts_of (split 47 c.0) >>= (λ ns. reset_with c.1 ns)))
    (ap (cut_at 32) text ∙ cut_at_field 32 (decimal k ++ slashed rs) message front)
    ∙ ap (λ fs. counts_of fs >>= (λ ns. reset_with message ns)) (split_slashed k rs r.most r.each)
    ∙ ap (λ (o : Option (List ℕ)). o >>= (λ ns. reset_with message ns)) (counts_found (k ∷ rs) (r.most, r.each))
    ∙ few_taken (nat_le (length rs) 8) _ (grind (arith, r.few))

pub line_found : (bytes : List ℕ) (l : Line) → IsLine bytes l → line_of bytes ≡ Some l
line_found [] l h = ⊎_elim (λ x. ap (λ y. Some y) (sym x.1))
    (λ x. let e : [] ≡ 64 ∷ (decimal x.0 ++ slashed x.1 ++ 32 ∷ x.2) = x.3.text in cc) h
line_found (b ∷ bytes) l h = elim h [
  | inl x ↦ rw (ne_eqb b 64 x.0) (ap (λ y. Some y) (sym x.1))
  | inr x ↦ let first : b ≡ 64 = cc (x.3.text) in
      rw (eq-eqb b 64 first) (reset_found bytes x.0 x.1 x.2 (subst (λ y. IsReset (y ∷ bytes) x.0 x.1 x.2) first x.3)
      ∙ ap (λ y. Some y) (sym x.4))
]
