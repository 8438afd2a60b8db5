-- Blocks one after another: how far whole ones and commits reach, and what they stand for, by the blocks alone.
use Rattle.std.proofs.Common.{◌≡◌, ℕ, zero, suc, ◌+◌, ◌-◌, ◌*◌, ◌<◌, ◌≤◌, true, false, cond, eqb, List}
use Rattle.std.proofs.Common.{length, slice_index, drop, sym, refl, ◌∙◌, ap, inl, inr, arith, rules, ext_get_or, get_or-take, get_or-drop}
use Rattle.std.proofs.lemmas.Bool.{cases_Bool, cases_eq, cond-true, cond-false, eq-eqb, eqb-true, false≢true, ne_eqb}
use Rattle.std.proofs.lemmas.List.{places}
use Rattle.d64_image.specs.Images.{Image}
use Rattle.image_log.specs.Blocks.{block_at, committed, first_commit, is_last, is_whole, part, replayed, whole_from, written}

pub slice_index-part : (f : List ℕ) (at n i : ℕ) → i < n → slice_index (part f at n) i ≡ slice_index f (at + i)
unfolding part
slice_index-part f at n i h = get_or-take n (drop at f) i 0 h ∙ get_or-drop at f i 0

pub length-part : (f : List ℕ) (at n : ℕ) → at + n ≤ length f → length (part f at n) ≡ n
unfolding part
length-part f at n h = search (rules, places)

pub same_parts : (f g : List ℕ) (a b n : ℕ) → a + n ≤ length f → b + n ≤ length g
    → ((i : ℕ) → i < n → slice_index f (a + i) ≡ slice_index g (b + i)) → part f a n ≡ part g b n
same_parts f g a b n in_f in_g same =
    let whole = length-part f a n in_f in
    ext_get_or 0 _ _ (whole ∙ sym (length-part g b n in_g)) λ i h.
    let low : i < n = omega arith in
    slice_index-part f a n i low ∙ same i low ∙ sym (slice_index-part g b n i low)

pub block_is : (f : List ℕ) (q : ℕ) → block_at f q ≡ part f (4096 * q) 4096
unfolding block_at
block_is f q = refl

pub slice_index-block : (f : List ℕ) (q i : ℕ) → i < 4096 → slice_index (block_at f q) i ≡ slice_index f (4096 * q + i)
slice_index-block f q i low = ap (λ b. slice_index b i) (block_is f q) ∙ slice_index-part f (4096 * q) 4096 i low

pub length-block : (f : List ℕ) (q : ℕ) → 4096 * q + 4096 ≤ length f → length (block_at f q) ≡ 4096
length-block f q within = ap length (block_is f q) ∙ length-part f (4096 * q) 4096 within

-- a block by its bytes
pub block_by : (f b : List ℕ) (q : ℕ) → 4096 * q + 4096 ≤ length f → length b ≡ 4096
    → ((i : ℕ) → i < 4096 → slice_index f (4096 * q + i) ≡ slice_index b i) → block_at f q ≡ b
block_by f b q within long same =
    let whole = length-block f q within in
    ext_get_or 0 _ _ (whole ∙ sym long) λ i h.
    let low : i < 4096 = omega arith in
    slice_index-block f q i low ∙ same i low

module _ (B : ℕ → List ℕ) where
  pub whole_none : (m : ℕ) → whole_from B m 0 ≡ 0
  unfolding whole_from
  whole_none m = refl

  pub whole_here : (m n : ℕ) → is_whole m (B m) ≡ true → whole_from B m (suc n) ≡ suc (whole_from B (suc m) n)
  unfolding whole_from
  whole_here m n is = cond-true _ _ 0 is

  pub whole_stops : (m n : ℕ) → is_whole m (B m) ≡ false → whole_from B m (suc n) ≡ 0
  unfolding whole_from
  whole_stops m n isnt = cond-false _ _ 0 isnt

  pub whole_few : (m n : ℕ) → whole_from B m n ≤ n
  whole_few m zero = omega (arith, whole_none m)
  whole_few m (suc n) = elim (cases_Bool (is_whole m (B m))) [
    | inl is ↦ omega (arith, whole_here m n is, whole_few (suc m) n)
    | inr isnt ↦ omega (arith, whole_stops m n isnt)
  ]

  -- each block below is whole
  pub whole_below : (m n q : ℕ) → q < whole_from B m n → is_whole (m + q) (B (m + q)) ≡ true
  whole_below m zero q low = absurd (omega (arith, whole_none m))
  whole_below m (suc n) q low = elim (cases_Bool (is_whole m (B m))) [
    | inl is ↦ elim (cases_eq q 0) [
      | inl none ↦ let e : m + q ≡ m = omega arith in ap (λ k. is_whole k (B k)) e ∙ is
      | inr some ↦
          let e : m + q ≡ suc m + (q - 1) = omega arith in
          ap (λ k. is_whole k (B k)) e ∙ whole_below (suc m) n (q - 1) (omega (arith, whole_here m n is))
    ]
    | inr isnt ↦ absurd (omega (arith, whole_stops m n isnt))
  ]

  -- the first k are whole, and the others count from there
  pub whole_add : (m k n : ℕ) → ((q : ℕ) → q < k → is_whole (m + q) (B (m + q)) ≡ true)
      → whole_from B m (k + n) ≡ k + whole_from B (m + k) n
  whole_add m zero n all =
      let a : zero + n ≡ n = omega arith in
      let b : m + zero ≡ m = omega arith in
      ap (whole_from B m) a ∙ ap (λ p. whole_from B p n) (sym b) ∙ (omega arith)
  whole_add m (suc k) n all =
      let a : suc k + n ≡ suc (k + n) = omega arith in
      let first : is_whole m (B m) ≡ true = let e : m + 0 ≡ m = omega arith in ap (λ k. is_whole k (B k)) (sym e) ∙ all 0 (omega arith) in
      let rest = whole_add (suc m) k n (λ q low. let e : suc m + q ≡ m + suc q = omega arith in ap (λ k. is_whole k (B k)) e ∙ all (suc q) (omega arith)) in
      let b : suc m + k ≡ m + suc k = omega arith in
      ap (whole_from B m) a ∙ whole_here m (k + n) first ∙ ap suc rest ∙ ap (λ p. suc (k + whole_from B p n)) b ∙ (omega arith)

  pub committed_none : committed B 0 ≡ 0
  unfolding committed
  committed_none = refl

  pub committed_last : (n : ℕ) → is_last (B n) ≡ true → committed B (suc n) ≡ suc n
  unfolding committed
  committed_last n is = cond-true _ _ _ is

  pub committed_more : (n : ℕ) → is_last (B n) ≡ false → committed B (suc n) ≡ committed B n
  unfolding committed
  committed_more n isnt = cond-false _ _ _ isnt

  pub committed_few : (n : ℕ) → committed B n ≤ n
  committed_few zero = omega (arith, committed_none)
  committed_few (suc n) = elim (cases_Bool (is_last (B n))) [
    | inl is ↦ omega (arith, committed_last n is)
    | inr isnt ↦ omega (arith, committed_more n isnt, committed_few n)
  ]

  pub first_none : first_commit B 0 ≡ 0
  unfolding first_commit
  first_none = refl

  pub first_suc : (n : ℕ) → first_commit B (suc n)
      ≡ cond (eqb (first_commit B n) 0) (cond (is_last (B n)) (suc n) 0) (first_commit B n)
  unfolding first_commit
  first_suc n = refl

  pub first_few : (n : ℕ) → first_commit B n ≤ n
  first_few zero = omega (arith, first_none)
  first_few (suc n) = elim (cases_Bool (eqb (first_commit B n) 0)) [
    | inl none ↦ elim (cases_Bool (is_last (B n))) [
      | inl is ↦ omega (arith, first_suc n ∙ cond-true _ _ _ none ∙ cond-true _ (suc n) 0 is)
      | inr isnt ↦ omega (arith, first_suc n ∙ cond-true _ _ _ none ∙ cond-false _ (suc n) 0 isnt)
    ]
    | inr some ↦ omega (arith, first_few n, first_suc n ∙ cond-false _ _ _ some)
  ]

  -- there is a first commit where there is a last one
  pub none_committed : (n : ℕ) → first_commit B n ≡ 0 → committed B n ≡ 0
  none_committed zero none = committed_none
  none_committed (suc n) none = elim (cases_Bool (eqb (first_commit B n) 0)) [
    | inl before ↦ elim (cases_Bool (is_last (B n))) [
      | inl is ↦ absurd (omega (arith, none, first_suc n ∙ cond-true _ _ _ before ∙ cond-true _ (suc n) 0 is))
      | inr isnt ↦ committed_more n isnt ∙ none_committed n (eqb-true (first_commit B n) 0 before)
    ]
    | inr some ↦
        let same = first_suc n ∙ cond-false _ _ _ some in
        absurd (false≢true (sym some ∙ eq-eqb (first_commit B n) 0 (sym same ∙ none)))
  ]

  pub some_committed : (n : ℕ) → 0 < first_commit B n → 0 < committed B n
  some_committed zero some = absurd (omega (arith, some, first_none))
  some_committed (suc n) some = elim (cases_Bool (is_last (B n))) [
    | inl is ↦ omega (arith, committed_last n is)
    | inr isnt ↦ elim (cases_Bool (eqb (first_commit B n) 0)) [
      | inl none ↦ absurd (omega (arith, some, first_suc n ∙ cond-true _ _ _ none ∙ cond-false _ (suc n) 0 isnt))
      | inr before ↦ omega (arith, committed_more n isnt, some_committed n (omega (arith, some, first_suc n ∙ cond-false _ _ _ before)))
    ]
  ]

  -- the first block that ends a commit
  pub first_here : (n : ℕ) → first_commit B n ≡ 0 → is_last (B n) ≡ true → first_commit B (suc n) ≡ suc n
  first_here n none is = first_suc n ∙ cond-true _ _ _ (eq-eqb (first_commit B n) 0 none) ∙ cond-true _ (suc n) 0 is

  pub first_later : (n : ℕ) → first_commit B n ≡ 0 → is_last (B n) ≡ false → first_commit B (suc n) ≡ 0
  first_later n none isnt = first_suc n ∙ cond-true _ _ _ (eq-eqb (first_commit B n) 0 none) ∙ cond-false _ (suc n) 0 isnt

  -- once there is one it stays
  pub first_stays : (n k : ℕ) → 0 < first_commit B n → first_commit B (n + k) ≡ first_commit B n
  first_stays n zero some = let e : n + zero ≡ n = omega arith in ap (first_commit B) e
  first_stays n (suc k) some =
      let e : n + suc k ≡ suc (n + k) = omega arith in
      let before = first_stays n k some in
      ap (first_commit B) e ∙ first_suc (n + k)
      ∙ cond-false (eqb (first_commit B (n + k)) 0) _ _ (ne_eqb (first_commit B (n + k)) 0 (omega (arith, before, some))) ∙ before

  pub replayed_none : (image : Image) → replayed B image 0 ≡ image
  unfolding replayed
  replayed_none image = refl

  pub replayed_suc : (image : Image) (n : ℕ) → replayed B image (suc n) ≡ written (B n) (replayed B image n)
  unfolding replayed
  replayed_suc image n = refl

module _ (A B : ℕ → List ℕ) where
  pub whole_alike : (m n : ℕ) → ((q : ℕ) → q < n → A (m + q) ≡ B (m + q)) → whole_from A m n ≡ whole_from B m n
  unfolding whole_from
  whole_alike m zero same = refl
  whole_alike m (suc n) same =
      let e : m + 0 ≡ m = omega arith in
      let here : A m ≡ B m = ap A (sym e) ∙ same 0 (omega arith) ∙ ap B e in
      let rest = whole_alike (suc m) n (λ q low. let s : suc m + q ≡ m + suc q = omega arith in ap A s ∙ same (suc q) (omega arith) ∙ ap B (sym s)) in
      ap (λ b. cond (is_whole m b) (suc (whole_from A (suc m) n)) 0) here ∙ ap (λ k. cond (is_whole m (B m)) (suc k) 0) rest

  pub first_alike : (n : ℕ) → ((q : ℕ) → q < n → A q ≡ B q) → first_commit A n ≡ first_commit B n
  unfolding first_commit
  first_alike zero same = refl
  first_alike (suc n) same =
      let rest = first_alike n (λ q low. same q (omega arith)) in
      ap (λ k. cond (eqb k 0) (cond (is_last (A n)) (suc n) 0) k) rest
      ∙ ap (λ b. cond (eqb (first_commit B n) 0) (cond (is_last b) (suc n) 0) (first_commit B n)) (same n (omega arith))

  pub committed_alike : (n : ℕ) → ((q : ℕ) → q < n → A q ≡ B q) → committed A n ≡ committed B n
  unfolding committed
  committed_alike zero same = refl
  committed_alike (suc n) same =
      let rest = committed_alike n (λ q low. same q (omega arith)) in
      ap (λ k. cond (is_last (A n)) (suc n) k) rest ∙ ap (λ b. cond (is_last b) (suc n) (committed B n)) (same n (omega arith))

  pub replayed_alike : (image : Image) (n : ℕ) → ((q : ℕ) → q < n → A q ≡ B q) → replayed A image n ≡ replayed B image n
  unfolding replayed
  replayed_alike image zero same = refl
  replayed_alike image (suc n) same =
      let rest = replayed_alike image n (λ q low. same q (omega arith)) in
      ap (written (A n)) rest ∙ ap (λ b. written b (replayed B image n)) (same n (omega arith))

  -- from the m-th block of the one on the same as from the first of the other
  pub replayed_behind : (image : Image) (m n : ℕ) → ((q : ℕ) → q < n → A (m + q) ≡ B q)
      → replayed A image (m + n) ≡ replayed B (replayed A image m) n
  unfolding replayed
  replayed_behind image m zero same = let e : m + zero ≡ m = omega arith in ap (replayed A image) e
  replayed_behind image m (suc n) same =
      let e : m + suc n ≡ suc (m + n) = omega arith in
      let rest = replayed_behind image m n (λ q low. same q (omega arith)) in
      ap (replayed A image) e ∙ ap (written (A (m + n))) rest
      ∙ ap (λ b. written b (replayed B (replayed A image m) n)) (same n (omega arith))
