-- The sectors of a block that is filled, and of the blocks of a commit.
use Rattle.std.proofs.Common.{◌≡◌, ◌≤◌, ◌<◌, ◌+◌, ◌*◌, ◌∙◌, ℕ, zero, suc, Bool, List, [], ap, arith, cond, drop, false, get_or, inl, inr, length, min, refl, replicate, set, slice_index, subst, sym, take, true, ◌++◌, ext_get_or, length-take-le}
use Rattle.std.proofs.lemmas.Bool.{cases_Bool, cases_eq, cases_lt, cond-false, cond-true}
use Rattle.std.proofs.lemmas.List.{drop_at, get_or-replicate, get_or-set_other, get_or-set_same, length-replicate, length-set, set_past, take_at}
use Rattle.d64_image.specs.Images.{Image}
use Rattle.image_log.specs.Blocks.{brought, pair_at, part, replayed, with_sectors, written}
use Rattle.image_log.specs.Marks.{Covers}
use Rattle.image_log.proofs.Runs.{replayed_alike, replayed_none, replayed_suc, same_parts}

pub with_none : (b : List ℕ) (image : Image) → with_sectors b 0 image ≡ image
unfolding with_sectors
with_none b image = refl

pub with_suc : (b : List ℕ) (n : ℕ) (image : Image) → with_sectors b (suc n) image
    ≡ set (with_sectors b n image) (pair_at b (16 + 2 * n)) (part b (64 + 256 * n) 256)
unfolding with_sectors
with_suc b n image = refl

-- the same bytes at the sectors' places are the same sectors
pub with_alike : (x y : List ℕ) → length x ≡ 4096 → length y ≡ 4096 → (n : ℕ) → n ≤ 15
    → ((i : ℕ) → 16 ≤ i → i < 16 + 2 * n → slice_index x i ≡ slice_index y i)
    → ((i : ℕ) → 64 ≤ i → i < 64 + 256 * n → slice_index x i ≡ slice_index y i)
    → (image : Image) → with_sectors x n image ≡ with_sectors y n image
with_alike x y long_x long_y zero few pairs bytes image = with_none x image ∙ sym (with_none y image)
with_alike x y long_x long_y (suc n) few pairs bytes image =
    let rest = with_alike x y long_x long_y n (omega arith) (λ i from low. pairs i from (omega arith)) (λ i from low. bytes i from (omega arith)) image in
    let low = pairs (16 + 2 * n) (omega arith) (omega arith) in
    let high = pairs (16 + 2 * n + 1) (omega arith) (omega arith) in
    let index : pair_at x (16 + 2 * n) ≡ pair_at y (16 + 2 * n) = omega (arith, low, high) in
    let same = same_parts x y (64 + 256 * n) (64 + 256 * n) 256 (omega (arith, long_x, few)) (omega (arith, long_y, few))
    (λ i small. bytes (64 + 256 * n + i) (omega arith) (omega arith)) in
    with_suc x n image
    ∙ ap (λ (s : Image). set s (pair_at x (16 + 2 * n)) (part x (64 + 256 * n) 256)) rest
    ∙ ap (λ (k : ℕ). set (with_sectors y n image) k (part x (64 + 256 * n) 256)) index
    ∙ ap (λ (b : List ℕ). set (with_sectors y n image) (pair_at y (16 + 2 * n)) b) same
    ∙ sym (with_suc y n image)

-- one sector more
pub with_more : (x y bytes : List ℕ) → length x ≡ 4096 → length y ≡ 4096 → (k index : ℕ) → k < 15
    → pair_at y (16 + 2 * k) ≡ index → part y (64 + 256 * k) 256 ≡ bytes
    → ((i : ℕ) → i < 16 + 2 * k → slice_index y i ≡ slice_index x i)
    → ((i : ℕ) → 64 ≤ i → i < 64 + 256 * k → slice_index y i ≡ slice_index x i)
    → (image : Image) → with_sectors y (k + 1) image ≡ set (with_sectors x k image) index bytes
with_more x y bytes long_x long_y k index few is_index is_bytes pairs rest image =
    let e : k + 1 ≡ suc k = omega arith in
    ap (λ n. with_sectors y n image) e ∙ with_suc y k image
    ∙ ap (λ (s : Image). set s (pair_at y (16 + 2 * k)) (part y (64 + 256 * k) 256))
    (with_alike y x long_y long_x k (omega arith) (λ i from low. pairs i low) (λ i from low. rest i from low) image)
    ∙ ap (λ (j : ℕ). set (with_sectors x k image) j (part y (64 + 256 * k) 256)) is_index
    ∙ ap (λ (b : List ℕ). set (with_sectors x k image) index b) is_bytes

module _ (touched : List Bool) (now : Image) where
  pub brought_none : (image : Image) → brought touched now 0 image ≡ image
  unfolding brought
  brought_none image = refl

  brought_suc : (i : ℕ) (image : Image) → brought touched now (suc i) image
      ≡ cond (get_or touched i false) (set (brought touched now i image) i (get_or now i [])) (brought touched now i image)
  unfolding brought
  brought_suc i image = refl

  pub brought_more : (i : ℕ) (image : Image) → get_or touched i false ≡ true
      → brought touched now (i + 1) image ≡ set (brought touched now i image) i (get_or now i [])
  brought_more i image is =
      let e : i + 1 ≡ suc i = omega arith in
      ap (λ n. brought touched now n image) e ∙ brought_suc i image ∙ cond-true _ _ _ is

  pub brought_same : (i : ℕ) (image : Image) → get_or touched i false ≡ false
      → brought touched now (i + 1) image ≡ brought touched now i image
  brought_same i image isnt =
      let e : i + 1 ≡ suc i = omega arith in
      ap (λ n. brought touched now n image) e ∙ brought_suc i image ∙ cond-false _ _ _ isnt

  length-brought : (n : ℕ) (image : Image) → length (brought touched now n image) ≡ length image
  length-brought zero image = ap length (brought_none image)
  length-brought (suc n) image = elim (cases_Bool (get_or touched n false)) [
    | inl is ↦ ap length (brought_suc n image ∙ cond-true _ _ _ is) ∙ length-set (brought touched now n image) n (get_or now n [])
        ∙ length-brought n image
    | inr isnt ↦ ap length (brought_suc n image ∙ cond-false _ _ _ isnt) ∙ length-brought n image
  ]

  above : (n i : ℕ) (image : Image) → n ≤ i → get_or (brought touched now n image) i [] ≡ get_or image i []
  above zero i image le = ap (λ (s : Image). get_or s i []) (brought_none image)
  above (suc n) i image le = elim (cases_Bool (get_or touched n false)) [
    | inl is ↦ ap (λ (s : Image). get_or s i []) (brought_suc n image ∙ cond-true _ _ _ is)
        ∙ get_or-set_other (brought touched now n image) n i (get_or now n []) [] (omega arith) ∙ above n i image (omega arith)
    | inr isnt ↦ ap (λ (s : Image). get_or s i []) (brought_suc n image ∙ cond-false _ _ _ isnt) ∙ above n i image (omega arith)
  ]

  below : (n i : ℕ) (image : Image) → i < n → n ≤ length image
      → (get_or touched i false ≡ false → get_or image i [] ≡ get_or now i [])
      → get_or (brought touched now n image) i [] ≡ get_or now i []
  below zero i image low fits same = absurd (omega arith)
  below (suc n) i image low fits same =
      let long = length-brought n image in
      elim (cases_Bool (get_or touched n false)) [
        | inl is ↦
            ap (λ (s : Image). get_or s i []) (brought_suc n image ∙ cond-true _ _ _ is)
            ∙ elim (cases_eq i n) [
              | inl here ↦ ap (λ (j : ℕ). get_or (set (brought touched now n image) n (get_or now n [])) j []) here
                  ∙ get_or-set_same (brought touched now n image) n (get_or now n []) [] (omega (arith, long, fits))
                  ∙ ap (λ (j : ℕ). get_or now j []) (sym here)
              | inr other ↦ get_or-set_other (brought touched now n image) n i (get_or now n []) [] other
                  ∙ below n i image (omega arith) (omega arith) same
            ]
        | inr isnt ↦
            ap (λ (s : Image). get_or s i []) (brought_suc n image ∙ cond-false _ _ _ isnt)
            ∙ elim (cases_eq i n) [
              | inl here ↦ above n i image (omega arith) ∙ same (ap (λ (j : ℕ). get_or touched j false) here ∙ isnt)
              | inr other ↦ below n i image (omega arith) (omega arith) same
            ]
      ]

  -- where each sector that isn't touched is the same, the image becomes the one now
  pub brought_all : (image : Image) → length image ≡ 683 → length now ≡ 683 → Covers touched image now
      → brought touched now 683 image ≡ now
  brought_all image long_image long_now covers = ext_get_or [] _ _ (length-brought 683 image ∙ long_image ∙ sym long_now) λ i h.
      let low : i < 683 = omega (arith, h, length-brought 683 image, long_image) in
      below 683 i image low (omega (arith, long_image)) (covers i low)

-- the blocks with one more
module _ (room : List (List ℕ)) (m : ℕ) (b : List ℕ) where
  pub earlier : (q : ℕ) → q < m → get_or (set room m b) q [] ≡ get_or room q []
  earlier q low = get_or-set_other room m q b [] (omega arith)

  pub newest : m < length room → get_or (set room m b) m [] ≡ b
  newest within = get_or-set_same room m b [] within

  -- what holds of the blocks before and of this one holds of all
  pub one_more : (P : ℕ → List ℕ → Type 0) → m < length room → P m b → ((q : ℕ) → q < m → P q (get_or room q []))
      → (q : ℕ) → q < m + 1 → P q (get_or (set room m b) q [])
  one_more P within here before q low = elim (cases_eq q m) [
    | inl is ↦ subst (λ (k : ℕ). P k (get_or (set room m b) k [])) (sym is) (subst (P m) (sym (newest within)) here)
    | inr other ↦ subst (P q) (sym (earlier q (omega (arith, low, other)))) (before q (omega (arith, low, other)))
  ]

  -- a block put among blocks of 4,096 bytes
  pub all_wide : (n : ℕ) → length b ≡ 4096 → ((q : ℕ) → q < n → length (get_or room q []) ≡ 4096)
      → (q : ℕ) → q < n → length (get_or (set room m b) q []) ≡ 4096
  all_wide n here before q low = elim (cases_eq q m) [
    | inl is ↦ elim (cases_lt m (length room)) [
      | inl within ↦ ap (λ (k : ℕ). length (get_or (set room m b) k [])) is ∙ ap length (newest within) ∙ here
      | inr past ↦ ap (λ (r : List (List ℕ)). length (get_or r q [])) (set_past room m b past) ∙ before q low
    ]
    | inr other ↦ ap length (get_or-set_other room m q b [] other) ∙ before q low
  ]

  pub replayed_more : (image : Image) → m < length room
      → replayed (λ q. get_or (set room m b) q []) image (m + 1) ≡ written b (replayed (λ q. get_or room q []) image m)
  replayed_more image within =
      let e : m + 1 ≡ suc m = omega arith in
      ap (replayed (λ q. get_or (set room m b) q []) image) e
      ∙ replayed_suc (λ q. get_or (set room m b) q []) image m
      ∙ ap (λ (x : List ℕ). written x (replayed (λ q. get_or (set room m b) q []) image m)) (newest within)
      ∙ ap (written b) (replayed_alike (λ q. get_or (set room m b) q []) (λ q. get_or room q []) image m earlier)

-- bytes that were put into a block
pub part_put : (xs ys bytes rest : List ℕ) (at : ℕ) → at ≤ length xs → ys ≡ bytes → length bytes ≡ 256
    → part (take at xs ++ (ys ++ rest)) at 256 ≡ bytes
unfolding part
part_put xs ys bytes rest at within is long =
    ap (take 256) (drop_at (take at xs) (ys ++ rest) at (length-take-le at xs within))
    ∙ take_at ys rest 256 (ap length is ∙ long) ∙ is

pub part_is : (b : List ℕ) (at n : ℕ) → part b at n ≡ take n (drop at b)
unfolding part
part_is b at n = refl

pub all_same : (image : Image) (x : List ℕ) (n : ℕ) → length image ≡ n → ((j : ℕ) → j < n → get_or image j [] ≡ x)
    → image ≡ replicate n x
all_same image x n long each = ext_get_or [] _ _ (long ∙ sym (length-replicate n x)) λ j h.
    let low : j < n = omega (arith, h, long) in
    each j low ∙ sym (get_or-replicate n j x [] low)

length-with : (b : List ℕ) (n : ℕ) (image : Image) → length (with_sectors b n image) ≡ length image
length-with b zero image = ap length (with_none b image)
length-with b (suc n) image = ap length (with_suc b n image)
    ∙ length-set (with_sectors b n image) (pair_at b (16 + 2 * n)) (part b (64 + 256 * n) 256) ∙ length-with b n image

pub length-replayed : (B : ℕ → List ℕ) (image : Image) (n : ℕ) → length (replayed B image n) ≡ length image
length-replayed B image zero = ap length (replayed_none B image)
length-replayed B image (suc n) = ap length (replayed_suc B image n)
    ∙ length-with (B n) (min 15 (slice_index (B n) 11)) (replayed B image n) ∙ length-replayed B image n
