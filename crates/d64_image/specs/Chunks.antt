-- A flat image and its sectors: over chunks of any size first, then at 683 sectors of 256 bytes.
use Rattle.std.proofs.Common.{
  ℕ,
  zero,
  suc,
  ◌+◌,
  ◌-◌,
  ◌*◌,
  ◌<◌,
  ◌≤◌,
  ◌≡◌,
  ◌++◌,
  List,
  [],
  ◌∷◌,
  ◌∙◌,
  ap,
  ap₂,
  subst,
  sym,
  refl,
  ⊎_elim,
  length,
  get_or,
  take,
  drop,
  replicate,
  take-add,
  take_at,
  drop_at,
  take_all,
  drop-drop,
  get_or-take,
  get_or-drop,
  length-drop,
  length-take-le,
  length-append,
  mul-suc,
  mul-zero,
  add_comm,
  zero-lt-suc,
  suc-le-suc,
  le_of_suc-le-suc,
  zero-le,
  length-take,
  arith,
}
use Rattle.std.specs.Simd.{first_chunks}
use Rattle.std.proofs.lemmas.Bool.{cases_lt}
use Rattle.std.proofs.lemmas.List.{
  get_or_past,
  get_or_append_left,
  get_or-append_right,
  get_or-replicate,
  length-replicate,
}
use Rattle.d64_image.specs.Images.{Image, IsSector, IsImage}
use Rattle.d64_image.specs.Memory.{sectors_in, bytes_of}

length-chunks : (k n : ℕ) (bs : List ℕ) → length (first_chunks k n bs) ≡ n
length-chunks k zero bs = refl
length-chunks k (suc n) bs = ap suc (length-chunks k n (drop k bs))

-- k times one more
step : (k i : ℕ) → k * suc i ≡ k + k * i
step k i = mul-suc k i ∙ add_comm (k * i) k

chunk_at : (k n i : ℕ) (bs : List ℕ) → i < n → get_or (first_chunks k n bs) i [] ≡ take k (drop (k * i) bs)
chunk_at k zero i bs lt = absurd (omega (arith, lt))
chunk_at k (suc n) zero bs lt = ap (λ (m : ℕ). take k (drop m bs)) (sym (mul-zero k))
chunk_at k (suc n) (suc i) bs lt =
    chunk_at k n i (drop k bs) (le_of_suc-le-suc lt)
    ∙ ap (take k) (drop-drop (k * i) k bs ∙ ap (λ (m : ℕ). drop m bs) (sym (step k i)))

-- cut into chunks and joined again
chunks_joined : (k n : ℕ) (bs : List ℕ) → bytes_of (first_chunks k n bs) ≡ take (k * n) bs
chunks_joined k zero bs = ap (λ (m : ℕ). take m bs) (sym (mul-zero k))
chunks_joined k (suc n) bs =
    ap (λ (rest : List ℕ). take k bs ++ rest) (chunks_joined k n (drop k bs))
    ∙ sym (take-add k (k * n) bs)
    ∙ ap (λ (m : ℕ). take m bs) (sym (step k n))

-- joined and cut again
joined_chunks : (k : ℕ) (img : Image) → ((i : ℕ) → i < length img → length (get_or img i []) ≡ k)
    → first_chunks k (length img) (bytes_of img) ≡ img
joined_chunks k [] sizes = refl
joined_chunks k (x ∷ xs) sizes =
    let here : length x ≡ k = sizes 0 (zero-lt-suc (length xs)) in
    ap₂ (λ (y : List ℕ) (ys : Image). y ∷ ys)
    (take_at x (bytes_of xs) k here)
    (ap (first_chunks k (length xs)) (drop_at x (bytes_of xs) k here)
    ∙ joined_chunks k xs (λ i lt. sizes (suc i) (suc-le-suc lt)))

length-joined : (k : ℕ) (img : Image) → ((i : ℕ) → i < length img → length (get_or img i []) ≡ k)
    → length (bytes_of img) ≡ k * length img
length-joined k [] sizes = sym (mul-zero k)
length-joined k (x ∷ xs) sizes =
    let here : length x ≡ k = sizes 0 (zero-lt-suc (length xs)) in
    let rest : length (bytes_of xs) ≡ k * length xs = length-joined k xs (λ i lt. sizes (suc i) (suc-le-suc lt)) in
    length-append x (bytes_of xs) ∙ ap₂ (λ (a b : ℕ). a + b) here rest ∙ sym (step k (length xs))

-- if every chunk has zeros alone, all bytes are zero
pub zeros_joined : (img : Image) (i : ℕ) → ((j k : ℕ) → get_or (get_or img j []) k 0 ≡ 0)
    → get_or (bytes_of img) i 0 ≡ 0
zeros_joined [] i zeros = get_or_past [] i 0 zero-le
zeros_joined (x ∷ xs) i zeros = ⊎_elim
    (λ (here : i < length x). get_or_append_left x (bytes_of xs) 0 i here ∙ zeros 0 i)
    (λ (past : length x ≤ i).
    get_or-append_right x (bytes_of xs) (length x) i 0 refl past
    ∙ zeros_joined xs (i - length x) (λ j k. zeros (suc j) k))
    (cases_lt i (length x))

zeros_of : (m i zero_byte : ℕ) → zero_byte ≡ 0 → get_or (replicate m zero_byte) i 0 ≡ 0
zeros_of m i zero_byte is = ⊎_elim
    (λ (here : i < m). get_or-replicate m i zero_byte 0 here ∙ is)
    (λ (past : m ≤ i). get_or_past (replicate m zero_byte) i 0 (omega (arith, past, length-replicate m zero_byte)))
    (cases_lt i m)

-- n sectors of m zeros
pub zeros_in : (img : Image) (m n : ℕ) → length img ≡ n → ((i : ℕ) → i < n → get_or img i [] ≡ replicate m 0)
    → (i j : ℕ) → get_or (get_or img i []) j 0 ≡ 0
zeros_in img m n count zeros i j = ⊎_elim
    (λ (here : i < n). ap (λ (x : List ℕ). get_or x j 0) (zeros i here) ∙ zeros_of m j 0 refl)
    (λ (past : n ≤ i).
    ap (λ (x : List ℕ). get_or x j 0) (get_or_past img i [] (omega (arith, past, count)))
    ∙ get_or_past [] j 0 zero-le)
    (cases_lt i n)

pub zeros_are_image : (img : Image) (m : ℕ) → m ≡ 256 → length img ≡ 683
    → ((i : ℕ) → i < 683 → get_or img i [] ≡ replicate m 0) → IsImage img
zeros_are_image img m wide count zeros = record {
  size = count;
  each = λ i lt. record {
    size = ap length (zeros i lt) ∙ length-replicate m 0 ∙ wide;
    small = λ j. omega (arith, zeros_in img m 683 count zeros i j);
  };
}

-- each byte of a chunk is one of the bytes
small_chunk : (k at : ℕ) (bs : List ℕ) (j : ℕ) → ((i : ℕ) → get_or bs i 0 < 256)
    → get_or (take k (drop at bs)) j 0 < 256
small_chunk k at bs j small = ⊎_elim
    (λ (here : j < k). omega (arith, small (at + j), get_or-take k (drop at bs) j 0 here, get_or-drop at bs j 0))
    (λ (past : k ≤ j). omega (
      arith,
      get_or_past (take k (drop at bs)) j 0 (omega (arith, past, length-take k (drop at bs))),
    ))
    (cases_lt j k)

-- the sectors of 174,848 bytes are an image
pub chunks_are_image : (bs : List ℕ) (n : ℕ) → n ≡ 683 → length bs ≡ 174848 → ((i : ℕ) → get_or bs i 0 < 256)
    → IsImage (first_chunks 256 n bs)
chunks_are_image bs n count size small = record {
  size = length-chunks 256 n bs ∙ count;
  each = λ i lt. subst IsSector (sym (chunk_at 256 n i bs (omega (arith, lt, count)))) (record {
    size = length-take-le 256 (drop (256 * i) bs) (omega (arith, lt, size, length-drop (256 * i) bs));
    small = λ j. small_chunk 256 (256 * i) bs j small;
  });
}

pub chunks_are_bytes : (bs : List ℕ) (n : ℕ) → n ≡ 683 → length bs ≡ 174848 → bytes_of (first_chunks 256 n bs) ≡ bs
chunks_are_bytes bs n count size = chunks_joined 256 n bs ∙ take_all (256 * n) bs (omega (arith, count, size))

pub chunks_are_sectors : (bs : List ℕ) (n : ℕ) → n ≡ 683 → first_chunks 256 n bs ≡ sectors_in bs
unfolding sectors_in
chunks_are_sectors bs n count = ap (λ (m : ℕ). first_chunks 256 m bs) count

-- the sectors of an image's bytes are the image
pub sectors_in-bytes_of : (img : Image) → IsImage img → sectors_in (bytes_of img) ≡ img
sectors_in-bytes_of img is =
    sym (chunks_are_sectors (bytes_of img) (length img) is.size)
    ∙ joined_chunks 256 img (λ i lt. (is.each i (omega (arith, lt, is.size))).size)

pub length-bytes_of : (img : Image) → IsImage img → length (bytes_of img) ≡ 174848
length-bytes_of img is = length-joined 256 img (λ i lt. (is.each i (omega (arith, lt, is.size))).size)
    ∙ omega (arith, is.size)

-- a sector is 256 of the image's bytes
pub sectors_in-at : (bs : List ℕ) (i : ℕ) → i < 683 → get_or (sectors_in bs) i [] ≡ take 256 (drop (256 * i) bs)
sectors_in-at bs i lt = ap (λ (img : Image). get_or img i []) (sym (chunks_are_sectors bs 683 refl))
    ∙ chunk_at 256 683 i bs lt
