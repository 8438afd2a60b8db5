-- How often a sector past track 35 is one of several files'.
use Rattle.std.proofs.Common.{◌≡◌, ◌<◌, ◌≤◌, ◌+◌, ◌∙◌, ◌++◌, ◌∷◌, ℕ, zero, suc, Bool, false, true, List, [], None, Some, ap, append-nil, arith, drop, get_or, length, length-append, min, refl, subst, sym, take}
use Rattle.std.specs.List.{list_any, range_with_len}
use Rattle.std.specs.Prelude.{filter, flat_map, if◌then◌else◌, nat_eq, nat_le}
use Rattle.std.proofs.lemmas.Bool.{le-leb, leb-false, leb-true, lt-leb}
use Rattle.std.proofs.lemmas.Grind.{flat_map-append}
use Rattle.std.proofs.lemmas.List.{drop_all, drop_more, take_more}
use Rattle.std.proofs.lemmas.List.Elements.{filter-append}
use Rattle.file_rescues.specs.rescue.Sharing.{first_among, is_so_often, numbers_of, past_of}
use Rattle.file_rescues.specs.declared.rescue.rescuing.Rescued.{Rescued}

-- one number that is the other, or isn't
one-same : (n m : ℕ) → nat_eq n m ≡ true → length (filter (nat_eq n) (m ∷ [])) ≡ 1
one-same n m is = rw is refl

one-other : (n m : ℕ) → nat_eq n m ≡ false → length (filter (nat_eq n) (m ∷ [])) ≡ 0
one-other n m is = rw is refl

pub counted-same : (n m before : ℕ) → nat_eq n m ≡ true → min 2 (before + 1) ≡ min 2 (before + length (filter (nat_eq n) (m ∷ [])))
counted-same n m before is = ap (λ (k : ℕ). min 2 (before + k)) (sym (one-same n m is))

pub counted-other : (n m before : ℕ) → before ≤ 2 → nat_eq n m ≡ false → before ≡ min 2 (before + length (filter (nat_eq n) (m ∷ [])))
counted-other n m before low is = omega (arith, low, one-other n m is)

-- one number more
pub counted-next : (n before count new : ℕ) (ns : List ℕ) (i : ℕ) → i < length ns
    → count ≡ min 2 (before + length (filter (nat_eq n) (take i ns)))
    → new ≡ min 2 (count + length (filter (nat_eq n) (get_or ns i 0 ∷ [])))
    → new ≡ min 2 (before + length (filter (nat_eq n) (take (i + 1) ns)))
counted-next n before count new ns i low so_far more =
    let all : length (filter (nat_eq n) (take (i + 1) ns))
    ≡ length (filter (nat_eq n) (take i ns) ++ filter (nat_eq n) (get_or ns i 0 ∷ [])) =
    ap length (ap (filter (nat_eq n)) (take_more ns i 0 low) ∙ filter-append (nat_eq n) (take i ns) (get_or ns i 0 ∷ [])) in
    omega (
      arith,
      so_far,
      more,
      all,
      length-append (filter (nat_eq n) (take i ns)) (filter (nat_eq n) (get_or ns i 0 ∷ [])),
    )

-- one file more
pub counted-file : (n count new : ℕ) (fs : List Rescued) (i : ℕ) (f : Rescued) → i < length fs → get_or fs i f ≡ f
    → count ≡ min 2 (length (filter (nat_eq n) (numbers_of (take i fs))))
    → new ≡ min 2 (count + length (filter (nat_eq n) f.sectors.items))
    → new ≡ min 2 (length (filter (nat_eq n) (numbers_of (take (i + 1) fs))))
counted-file n count new fs i f low is so_far more =
    let taken : take (i + 1) fs ≡ take i fs ++ f ∷ [] =
    take_more fs i f low ∙ ap (λ (g : Rescued). take i fs ++ g ∷ []) is in
    let numbers : numbers_of (take (i + 1) fs) ≡ numbers_of (take i fs) ++ f.sectors.items =
    ap numbers_of taken ∙ flat_map-append (λ (g : Rescued). g.sectors.items) (take i fs) (f ∷ [])
    ∙ ap (λ (ns : List ℕ). numbers_of (take i fs) ++ ns) (append-nil f.sectors.items) in
    let all = ap length (ap (filter (nat_eq n)) numbers ∙ filter-append (nat_eq n) (numbers_of (take i fs)) f.sectors.items) in
    omega (
      arith,
      so_far,
      more,
      all,
      length-append (filter (nat_eq n) (numbers_of (take i fs))) (filter (nat_eq n) f.sectors.items),
    )

-- as many at least, if no more than two are asked
pub least-same : (k c x : ℕ) → k ≤ 2 → c ≡ min 2 x → nat_le k c ≡ nat_le k x
least-same k c x few is = by (nat_le k x) refl
  where
    by : (b : Bool) → nat_le k x ≡ b → nat_le k c ≡ nat_le k x
    by true many = le-leb k c (omega (arith, is, few, leb-true k x many)) ∙ sym many
    by false less = lt-leb k c (omega (arith, is, few, leb-false k x less)) ∙ sym less

-- one number more of a range
range-suc : (a n : ℕ) → range_with_len a (suc n) ≡ range_with_len a n ++ (a + n) ∷ []
range-suc a zero = let at : a ≡ a + 0 = omega arith in ap (λ (k : ℕ). k ∷ []) at
range-suc a (suc n) =
    let at : a + 1 + n ≡ a + suc n = omega arith in
    ap (λ (ks : List ℕ). a ∷ ks) (range-suc (a + 1) n ∙ ap (λ (k : ℕ). range_with_len (a + 1) n ++ k ∷ []) at)

range-more : (a n : ℕ) → range_with_len a (n + 1) ≡ range_with_len a n ++ (a + n) ∷ []
range-more a n = let next : n + 1 ≡ suc n = omega arith in ap (range_with_len a) next ∙ range-suc a n

-- one sector more, which several have or haven't
pub filtered-next : (p : ℕ → Bool) (old new : List ℕ) (n : ℕ) → old ≡ filter p (range_with_len 683 n)
    → new ≡ old ++ filter p ((683 + n) ∷ []) → new ≡ filter p (range_with_len 683 (n + 1))
filtered-next p old new n before more =
    more ∙ ap (λ (ns : List ℕ). ns ++ filter p ((683 + n) ∷ [])) before
    ∙ sym (ap (filter p) (range-more 683 n) ∙ filter-append p (range_with_len 683 n) ((683 + n) ∷ []))

pub past-all : (least : ℕ) (files : List Rescued) (ns : List ℕ) (n : ℕ) → n ≡ 119
    → ns ≡ filter (is_so_often least (numbers_of files)) (range_with_len 683 n) → ns ≡ past_of least files
unfolding past_of
past-all least files ns n all are =
    are ∙ ap (λ (k : ℕ). filter (is_so_often least (numbers_of files)) (range_with_len 683 k)) all

-- one of a file's sectors, which is shared or isn't
by-listed : (shared : List ℕ) (n : ℕ) (ns : List ℕ) (b : Bool) → list_any (λ m. nat_eq m n) shared ≡ b
    → first_among shared (n ∷ ns) ≡ (if b then Some n else first_among shared ns)
unfolding first_among
by-listed shared n ns b is = ap (λ (c : Bool). if c then Some n else first_among shared ns) is

module _ (shared ns : List ℕ) (k : ℕ) (so_far : first_among shared ns ≡ first_among shared (drop k ns)) where
  pub among-here : k < length ns → list_any (λ m. nat_eq m (get_or ns k 0)) shared ≡ true
      → Some (get_or ns k 0) ≡ first_among shared ns
  among-here low is =
      sym (so_far ∙ ap (first_among shared) (drop_more ns k 0 low) ∙ by-listed shared (get_or ns k 0) (drop (k + 1) ns) true is)

  pub among-later : k < length ns → list_any (λ m. nat_eq m (get_or ns k 0)) shared ≡ false
      → first_among shared ns ≡ first_among shared (drop (k + 1) ns)
  among-later low is =
      so_far ∙ ap (first_among shared) (drop_more ns k 0 low) ∙ by-listed shared (get_or ns k 0) (drop (k + 1) ns) false is

  pub among-none : length ns ≤ k → None ≡ first_among shared ns
  unfolding first_among
  among-none low = sym (so_far ∙ ap (first_among shared) (drop_all k ns low))
