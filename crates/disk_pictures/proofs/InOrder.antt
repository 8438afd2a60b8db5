-- The text of each sector, track by track, is that of all places in their order; and loops that print it.
use mir.Val.{bool_byte}
use Rattle.std.proofs.Common.{◌≡◌, ◌≤◌, ◌+◌, ◌-◌, ◌++◌, ◌∷◌, [], Bool, List, Option, Some, None, ℕ, zero, suc, false, true}
use Rattle.std.proofs.Common.{ap, ap₂, append_assoc, arith, length, length-append, refl, subst, sym, take, ◌∙◌}
use Rattle.std.specs.Prelude.{◌||◌, flat_map, if◌then◌else◌}
use Rattle.std.specs.Io.KnownBytes.{Appends}
use Rattle.std.specs.List.{cons_option, filter_map, list_any, range_with_len}
use Rattle.std.proofs.KnownBytes.{Appends-trans}
use Rattle.std.proofs.lemmas.Grind.{flat_map-append}
use Rattle.std.proofs.lemmas.List.{append-nil}
use Rattle.std.proofs.lemmas.List.Elements.{filter_map-append}
use Rattle.std.proofs.lemmas.List.Folds.{list_any-append}
use Rattle.std.proofs.Math.Bool.{or-false}
use Rattle.d64_image.proofs.Order.{all-taken, place-taken, text-more}
use Rattle.d64_image.proofs.Places.{few_sectors, place_at-none}
use Rattle.d64_image.specs.Geometry.{sectors_on}
use Rattle.d64_image.specs.Images.{Image}
use Rattle.d64_image.specs.Places.{index_of, place_at, places}
use Rattle.d64_image.specs.declared.place.Place.{Place}
use Rattle.disk_pictures.specs.Comparisons.{differs, number_of}
use Rattle.disk_pictures.specs.Pictures.{each_place}
use Rattle.disk_pictures.specs.Texts.{at_place, each_below}

range-more : (a n m : ℕ) → m ≡ a + n → range_with_len a (suc n) ≡ range_with_len a n ++ m ∷ []
range-more a zero m is = let at : a ≡ m = omega (arith, is) in ap (λ (k : ℕ). k ∷ []) at
range-more a (suc n) m is = ap (λ (ks : List ℕ). a ∷ ks) (range-more (a + 1) n m (omega (arith, is)))

module _ (line : Place → List ℕ) where
  abbrev at : ℕ → ℕ → List ℕ
  at t s = at_place line (place_at t s)

  one : (o : Option Place) → flat_map line (cons_option o []) ≡ at_place line o
  one None = refl
  one (Some p) = append-nil (line p)

  -- the sectors of a track, also where more are asked for than it has
  row : (t n : ℕ) → n ≤ sectors_on t → flat_map line (filter_map (place_at t) (range_with_len 0 n)) ≡ each_below n (at t)
  unfolding each_below
  row t zero le = refl
  row t (suc n) le =
      ap (λ (ks : List ℕ). flat_map line (filter_map (place_at t) ks)) (range-more 0 n n (omega arith))
      ∙ ap (flat_map line) (filter_map-append (place_at t) (range_with_len 0 n) (n ∷ []))
      ∙ flat_map-append line (filter_map (place_at t) (range_with_len 0 n)) (cons_option (place_at t n) [])
      ∙ ap₂ (λ (xs ys : List ℕ). xs ++ ys) (row t n (omega (arith, le))) (one (place_at t n))

  past-one : (t k : ℕ) → sectors_on t ≤ k → each_below (suc k) (at t) ≡ each_below k (at t)
  unfolding each_below
  past-one t k le =
      ap (λ (o : Option Place). each_below k (at t) ++ at_place line o) (place_at-none t k le)
      ∙ append-nil (each_below k (at t))

  past : (t n m : ℕ) → sectors_on t ≤ n → each_below (m + n) (at t) ≡ each_below n (at t)
  past t n zero le = ap (λ (k : ℕ). each_below k (at t)) (omega arith)
  past t n (suc m) le = ap (λ (k : ℕ). each_below k (at t)) (omega arith)
      ∙ past-one t (m + n) (omega (arith, le)) ∙ past t n m le

  abbrev track : ℕ → List Place
  track t = filter_map (place_at t) (range_with_len 0 (sectors_on t))

  whole : (t : ℕ) → flat_map line (track t) ++ [] ≡ each_below 21 (at t)
  whole t =
      append-nil (flat_map line (track t)) ∙ row t (sectors_on t) (omega arith)
      ∙ sym (past t (sectors_on t) (21 - sectors_on t) (omega arith))
      ∙ ap (λ (k : ℕ). each_below k (at t)) (omega (arith, few_sectors t))

  tracks : (n : ℕ) → flat_map line (flat_map track (range_with_len 1 n))
      ≡ each_below n (λ b. each_below 21 (at (b + 1)))
  unfolding each_below
  tracks zero = refl
  tracks (suc n) =
      ap (λ (ks : List ℕ). flat_map line (flat_map track ks)) (range-more 1 n (n + 1) (omega arith))
      ∙ ap (flat_map line) (flat_map-append track (range_with_len 1 n) ((n + 1) ∷ []))
      ∙ flat_map-append line (flat_map track (range_with_len 1 n)) (track (n + 1) ++ [])
      ∙ ap₂ (λ (xs ys : List ℕ). xs ++ ys) (tracks n)
      (ap (flat_map line) (append-nil (track (n + 1))) ∙ sym (append-nil (flat_map line (track (n + 1)))) ∙ whole (n + 1))

  pub in_order : flat_map line places ≡ each_place line
  unfolding places each_place
  in_order = tracks 35

  all : (i : ℕ) → 683 ≤ i → flat_map line (take i places) ≡ each_place line
  all i past = ap (flat_map line) (all-taken i past) ∙ in_order

  -- one place more behind a beginning, and all of them with an end
  pub place-more : (a b c : Option (List ℕ)) (head : List ℕ) (i : ℕ) (p : Place) → index_of p ≡ i
      → Appends a b (head ++ flat_map line (take i places)) → Appends b c (line p)
      → Appends a c (head ++ flat_map line (take (i + 1) places))
  place-more a b c head i p is before more = subst (Appends a c)
      (append_assoc head (flat_map line (take i places)) (line p) ∙ ap (λ (t : List ℕ). head ++ t) (text-more line i p is))
      (Appends-trans a b c _ _ before more)

  pub places-all : (a b : Option (List ℕ)) (i : ℕ) → 683 ≤ i → Appends a b (flat_map line (take i places))
      → Appends a b (each_place line)
  places-all a b i past lines = subst (Appends a b) (all i past) lines

  pub places-ended : (a b c : Option (List ℕ)) (head end : List ℕ) (i : ℕ) → 683 ≤ i
      → Appends a b (head ++ flat_map line (take i places)) → Appends b c end
      → Appends a c (head ++ (each_place line ++ end))
  places-ended a b c head end i past before last = subst (λ (t : List ℕ). Appends a c (head ++ (t ++ end))) (all i past)
      (subst (Appends a c) (append_assoc head (flat_map line (take i places)) end) (Appends-trans a b c _ end before last))

-- one place more that may be so, and all of them
pub any-taken : (test : Place → Bool) (i : ℕ) (p : Place) (found here next : Bool) → index_of p ≡ i
    → found ≡ list_any test (take i places) → here ≡ test p → next ≡ (found || here)
    → next ≡ list_any test (take (i + 1) places)
any-taken test i p found here next at before now is =
    is ∙ ap (λ (b : Bool). b || here) before ∙ ap (λ (b : Bool). list_any test (take i places) || b) (now ∙ sym (or-false (test p)))
    ∙ sym (list_any-append test (take i places) (p ∷ [])) ∙ ap (list_any test) (sym (place-taken i p at))

pub any-places : (test : Place → Bool) (i : ℕ) (found : Bool) → 683 ≤ i → found ≡ list_any test (take i places)
    → found ≡ list_any test places
any-places test i found past is = is ∙ ap (list_any test) (all-taken i past)

-- what is written for a sector, if it differs
abbrev pub differing : (Place → List ℕ) → Image → Image → Place → List ℕ
differing line a b p = if differs a b p then line p else []

-- one place more that may differ, counted
module _ (a b : Image) where
  abbrev counted : List Place → ℕ
  counted ps = length (flat_map (differing number_of a b) ps)

  pub counted-more : (i : ℕ) (p : Place) (count more : ℕ) → index_of p ≡ i → count ≡ counted (take i places)
      → (other : Bool) → other ≡ differs a b p → more ≡ bool_byte other → count + more ≡ counted (take (i + 1) places)
  counted-more i p count more at before other is byte =
      let line = differing number_of a b in
      omega (
        arith,
        before,
        ap length (text-more line i p at),
        length-append (flat_map line (take i places)) (line p),
        byte,
        told other is,
      )
    where
      told : (other : Bool) → other ≡ differs a b p → bool_byte other ≡ length (differing number_of a b p)
      told true is = rw (sym is) refl
      told false is = rw (sym is) refl

  pub counted-all : (i count : ℕ) → 683 ≤ i → count ≡ counted (take i places)
      → count ≡ length (each_place (differing number_of a b))
  counted-all i count past before = before ∙ ap length (all (differing number_of a b) i past)
