-- A block count written into the bytes of a directory sector.
use Rattle.std.proofs.Common.{List, [], ap, ap₂, arith, drop, inl, inr, length, refl, rules, slice_index, sym, take}
use Rattle.std.proofs.Common.{ℕ, ◌*◌, ◌+◌, ◌-◌, ◌/◌, ◌%◌, ◌<◌, ◌∙◌, ◌∷◌, ◌≡◌, ◌≤◌}
use Rattle.std.specs.Prelude.{slice_range}
use Rattle.std.proofs.lemmas.List.{get_or-append_right, get_or-drop, get_or-take, length-drop, length-take}
use Rattle.std.proofs.lemmas.List.{length-take-le, places}
use borrow.Rule.Slice.PartMut.{mid_of, put_mid, put_same, same_len_mid, take_put}
use Rattle.d64_image.specs.Images.{Sector}
use Rattle.d64_image.specs.declared.place.Place.{Place}
use Rattle.disk_layout.proofs.lemmas.counts.Counts.{range-piece}
use Rattle.disk_layout.proofs.lemmas.records.Pieces.{piece-byte}
use Rattle.disk_layout.specs.Directory.{slot_in}
use Rattle.disk_layout.specs.Entries.{IsRecounted}
use Rattle.disk_layout.specs.Layout.{count_field}

-- the bytes of a slot, and of its block count, from the sector
pub slot-byte : (y : Sector) (n j : ℕ) → j < 32 → slice_index (slice_range y (32 * n) (32 * n + 32)) j ≡ slice_index y
    (32 * n + j)
slot-byte y n j lt =
    let at : n * 32 + j ≡ 32 * n + j = omega arith in
    ap (λ (z : List ℕ). slice_index z j) (range-piece y n) ∙ piece-byte 32 n y j lt ∙ ap (slice_index y) at

pub count-byte : (y : Sector) (n j : ℕ) → j < 2 → slice_index (slice_range (slice_range y (32 * n) (32 * n + 32)) 30 32)
    j ≡ slice_index y (32 * n + 30 + j)
count-byte y n j lt =
    let zs = slice_range y (32 * n) (32 * n + 32) in
    let at : 32 * n + (30 + j) ≡ 32 * n + 30 + j = omega arith in
    get_or-take 2 (drop 30 zs) j 0 lt ∙ get_or-drop 30 zs j 0 ∙ slot-byte y n (30 + j) (omega arith)
    ∙ ap (slice_index y) at

-- two bytes from a on, written
two-low : (x ys rest : Sector) (a k low : ℕ) → ys ≡ low ∷ rest → a ≤ length x
    → slice_index (put_mid a k x ys) (a + 0) ≡ low
two-low x ys rest a k low e fits = rw e (search (rules, places))

two-high : (x ys rest : Sector) (a k low high : ℕ) → ys ≡ low ∷ high ∷ rest → a ≤ length x
    → slice_index (put_mid a k x ys) (a + 1) ≡ high
two-high x ys rest a k low high e fits = rw e (search (rules, places))

-- the part that is written has as many bytes as its bounds say
pub two-there : (x : Sector) (a k : ℕ) → k ≡ 2 → a + 2 ≤ length x → length (mid_of a k x) ≡ 2
two-there x a k two fits = omega (arith, length-take k (drop a x), length-drop a x)

-- what stands before a part that is written, and behind it
before-part : (a k i : ℕ) (xs ys : Sector) → a ≤ length xs → i < a → slice_index (put_mid a k xs ys) i ≡ slice_index xs
    i
before-part a k i xs ys fits lt =
    sym (get_or-take a (put_mid a k xs ys) i 0 lt)
    ∙ ap (λ (zs : Sector). slice_index zs i) (take_put a k xs ys fits)
    ∙ get_or-take a xs i 0 lt

behind-part : (a k i : ℕ) (xs ys : Sector) → a ≤ length xs → length ys ≡ k → a + k ≤ i
    → slice_index (put_mid a k xs ys) i ≡ slice_index xs i
behind-part a k i xs ys fits long far =
    get_or-append_right (take a xs) _ a i 0 (length-take-le a xs fits) (omega (arith, far))
    ∙ get_or-append_right ys _ k (i - a) 0 long (omega (arith, far))
    ∙ get_or-drop k (drop a xs) (i - a - k) 0
    ∙ get_or-drop a xs (k + (i - a - k)) 0
    ∙ ap (slice_index xs) (omega (arith, far))

-- nothing but the block count of slot n changes
pub count-rest : (x ys : Sector) (n k low high : ℕ) → k ≡ 2 → length x ≡ 256 → n < 8
    → ys ≡ low ∷ high ∷ drop 2 (mid_of (32 * n + 30) k x) → IsRecounted x (put_mid (32 * n + 30) k x ys) n
count-rest x ys n k low high two whole below e =
    let there = two-there x (32 * n + 30) k two (omega arith) in
    let long : length ys ≡ 2 = omega (arith, ap length e, length-drop 2 (mid_of (32 * n + 30) k x)) in
    record {
      old_long = whole;
      long = same_len_mid (32 * n + 30) k x ys (long ∙ sym there) ∙ whole;
      same = λ i at. elim at [
        | inl lt ↦ before-part (32 * n + 30) k i x ys (omega arith) lt
        | inr le ↦ behind-part (32 * n + 30) k i x ys (omega arith) (long ∙ sym two) (omega (arith, le))
      ];
    }

-- a number written into the block count of slot n
pub count-written : (x ys rest : Sector) (p : Place) (n k count : ℕ) → count < 65536 → 32 * n + 32 ≤ length x
    → ys ≡ count % 256 ∷ count / 256 % 256 ∷ rest → count_field (slot_in p (put_mid (32 * n + 30) k x ys) n) ≡ count
count-written x ys rest p n k count low fits e =
    let y = put_mid (32 * n + 30) k x ys in
    omega (
      arith,
      count-byte y n 0 (omega arith),
      count-byte y n 1 (omega arith),
      two-low x ys _ (32 * n + 30) k _ e (omega arith),
      two-high x ys rest (32 * n + 30) k _ _ e (omega arith),
    )

-- where the count is this number already, the bytes stay
pub count-kept : (x ys : Sector) (p : Place) (n k count : ℕ) → ((i : ℕ) → slice_index x i < 256) → k ≡ 2
    → 32 * n + 32 ≤ length x → ys ≡ count % 256 ∷ count / 256 % 256 ∷ drop 2 (mid_of (32 * n + 30) k x)
    → count_field (slot_in p x n) ≡ count → put_mid (32 * n + 30) k x ys ≡ x
count-kept x ys p n k count bytes two fits e same =
    ap (put_mid a k x) (e ∙ sym (ap₂ (λ (u v : ℕ). u ∷ v ∷ drop 2 mid) low high) ∙ sym (front mid long))
    ∙ put_same a k x
  where
    a : ℕ
    a = 32 * n + 30

    mid : List ℕ
    mid = mid_of a k x

    front : (zs : List ℕ) → 2 ≤ length zs → zs ≡ slice_index zs 0 ∷ slice_index zs 1 ∷ drop 2 zs
    front [] h = absurd (omega arith)
    front (u ∷ []) h = absurd (omega arith)
    front (u ∷ v ∷ zs) h = refl

    long : 2 ≤ length mid
    long = omega (arith, two-there x a k two (omega arith))

    here : (j : ℕ) → j < 2 → slice_index mid j ≡ slice_index x (a + j)
    here j lt = get_or-take k (drop a x) j 0 (omega arith) ∙ get_or-drop a x j 0

    low : slice_index mid 0 ≡ count % 256
    low = omega (
      arith,
      same,
      here 0 (omega arith),
      count-byte x n 0 (omega arith),
      count-byte x n 1 (omega arith),
      bytes a,
    )

    high : slice_index mid 1 ≡ count / 256 % 256
    high = omega (
      arith,
      same,
      here 1 (omega arith),
      count-byte x n 0 (omega arith),
      count-byte x n 1 (omega arith),
      bytes a,
      bytes (a + 1),
    )
