-- Pieces that were written, put at their positions again: they are the record.
use Rattle.std.proofs.Common.{◌≡◌, ◌<◌, ◌≤◌, ◌-◌, ◌+◌, ◌∙◌, ◌⊎◌, inl, inr, ℕ, suc, List, [], ◌∷◌, ◌++◌, Bool}
use Rattle.std.proofs.Common.{true, false, ap, arith, drop, length, length-append, map, refl, subst, sym}
use Rattle.std.specs.Prelude.{if◌then◌else◌, nat_eq, replicate, slice_index, slice_range}
use Rattle.std.proofs.lemmas.Bool.{cases_lt, lt-ltb}
use Rattle.std.proofs.lemmas.Grind.{flat_map-append}
use Rattle.std.proofs.lemmas.List.{append_assoc, append-nil, drop_all, length-drop, length-replicate}
use Rattle.std.proofs.lemmas.List.{length-take, length-take-le, replicate-append-replicate}
use Rattle.std.proofs.lemmas.List.Folds.{drop_split}
use Rattle.line_text.specs.bytes.Texts.{byte_text, is_plain, text_of, trimmed}
use Rattle.line_text.proofs.lemmas.columns.CutBack.{texts-back}
use Rattle.line_text.proofs.lemmas.columns.Fields.{chosen}
use Rattle.line_text.proofs.lemmas.columns.Places.{after-some, placed-some}
use Rattle.line_text.proofs.lemmas.columns.Zeros.{tail-zeros, trimmed-ahead, trimmed-stays, zeros-none}
use Rattle.line_text.specs.columns.Columns.{columns_of_fields}
use Rattle.line_text.specs.columns.Marks.{without_marks}
use Rattle.line_text.specs.columns.Pieces.{byte_count, cut, end_after, joined_at, piece_columns, pieces, pieces_text, placed}
use Rattle.line_text.specs.columns.Positions.{AreRising}

-- a text stands for its bytes
plain-first : (b : ℕ) → is_plain b ≡ true → nat_eq b 92 ≡ false
plain-first b plain = grind arith

count-chosen : (p : Bool) (b : ℕ) (rest : List ℕ) → is_plain b ≡ p → byte_count 0 (chosen p b ++ rest) ≡ suc (byte_count 0 rest)
unfolding byte_count
count-chosen true b rest is = ap (λ (x : Bool). suc (byte_count (if x then 2 else 0) rest)) (plain-first b is)
count-chosen false b rest is = refl

count-text : (bytes : List ℕ) → byte_count 0 (text_of bytes) ≡ length bytes
unfolding byte_count
count-text [] = refl
count-text (b ∷ bytes) = count-chosen (is_plain b) b (text_of bytes) refl ∙ ap suc (count-text bytes)

some-chosen : (p : Bool) (b : ℕ) → 1 ≤ length (chosen p b)
some-chosen true b = omega arith
some-chosen false b = omega arith

some-text : (b : ℕ) (bytes : List ℕ) → 1 ≤ length (text_of (b ∷ bytes))
some-text b bytes = omega (arith, some-chosen (is_plain b) b, length-append (byte_text b) (text_of bytes))

-- zeros before nothing, or as many of them
same-zeros : (m n : ℕ) (rest : List ℕ) → (m ≡ n) ⊎ (rest ≡ [])
    → trimmed (replicate m 0 ++ rest) ≡ trimmed (replicate n 0 ++ rest)
same-zeros m n rest how = elim how [
  | inl same ↦ ap (λ (k : ℕ). trimmed (replicate k 0 ++ rest)) same
  | inr none ↦ only m none ∙ sym (only n none)
]
  where
    only : (k : ℕ) → rest ≡ [] → trimmed (replicate k 0 ++ rest) ≡ []
    only k none =
        ap (λ (xs : List ℕ). trimmed (replicate k 0 ++ xs)) none
        ∙ ap trimmed (append-nil (replicate k 0)) ∙ zeros-none k

-- a piece of nothing but zeros
place-none : (z k n : ℕ) (rest : List ℕ) → (n ≡ z + k) ⊎ (rest ≡ [])
    → text_of (trimmed (replicate n 0 ++ rest)) ≡ text_of (trimmed (replicate z 0 ++ (replicate k 0 ++ rest)))
place-none z k n rest how =
    ap text_of (same-zeros n (z + k) rest how
    ∙ ap (λ (xs : List ℕ). trimmed (xs ++ rest)) (sym (replicate-append-replicate z k 0))
    ∙ ap trimmed (append_assoc (replicate z 0) (replicate k 0) rest))

-- a piece with other bytes, before what stands after it
place-some : (z k n : ℕ) (x rest : List ℕ) → 1 ≤ length (trimmed x) → (n ≡ k) ⊎ (rest ≡ [])
    → (text_of (replicate z 0) ++ text_of (trimmed x)) ++ text_of (trimmed (replicate n 0 ++ rest))
    ≡ text_of (trimmed (replicate z 0 ++ ((trimmed x ++ replicate k 0) ++ rest)))
place-some z k n x rest some how =
    let before : List ℕ = replicate z 0 in
    let kept : List ℕ = trimmed x in
    let zeros : List ℕ = replicate k 0 in
    let stays = trimmed-stays x (zeros ++ rest) some in
    let long : 1 ≤ length (trimmed (kept ++ (zeros ++ rest))) =
    subst (λ (xs : List ℕ). 1 ≤ length xs) (sym stays)
    (omega (arith, some, length-append kept (trimmed (zeros ++ rest)))) in
    ap (λ (xs : List ℕ). (text_of before ++ text_of kept) ++ text_of xs) (same-zeros n k rest how)
    ∙ append_assoc (text_of before) (text_of kept) (text_of (trimmed (zeros ++ rest)))
    ∙ ap (λ (t : List ℕ). text_of before ++ t) (sym (flat_map-append byte_text kept (trimmed (zeros ++ rest))))
    ∙ ap (λ (xs : List ℕ). text_of before ++ text_of xs) (sym stays)
    ∙ sym (flat_map-append byte_text before (trimmed (kept ++ (zeros ++ rest))))
    ∙ ap text_of (sym (trimmed-ahead before (kept ++ (zeros ++ rest)) long))
    ∙ ap (λ (xs : List ℕ). text_of (trimmed (before ++ xs))) (sym (append_assoc kept zeros rest))

-- What a place gives for the bytes that are kept of a piece. `room` bytes are between its position and the next one.
record IsPlaced (end p : ℕ) (x rest kept : List ℕ) (room : ℕ) : Type 0 where
  pub low : end_after end p (text_of kept) < p + room
  pub text : placed end p (text_of kept)
      ++ text_of (trimmed (replicate (p - 1 + room - end_after end p (text_of kept)) 0 ++ rest))
      ≡ text_of (trimmed (replicate (p - 1 - end) 0 ++ (x ++ rest)))

only-zeros : (end p : ℕ) (x rest : List ℕ) (room : ℕ) → end < p → (length x ≡ room) ⊎ (rest ≡ []) → trimmed x ≡ []
    → IsPlaced end p x rest (trimmed x) room
only-zeros end p x rest room low how none =
    let tail = tail-zeros x in
    let is : x ≡ replicate tail.count 0 = tail.is ∙ ap (λ (xs : List ℕ). xs ++ replicate tail.count 0) none in
    let size : length x ≡ tail.count = ap length is ∙ length-replicate tail.count 0 in
    let all : (p - 1 + room - end ≡ p - 1 - end + tail.count) ⊎ (rest ≡ []) = elim how [
      | inl full ↦ inl (omega (arith, full, size, low))
      | inr last ↦ inr last
    ] in
    subst (λ (kept : List ℕ). IsPlaced end p x rest kept room) (sym none) (record {
      low = omega (arith, low);
      text = place-none (p - 1 - end) tail.count (p - 1 + room - end) rest all
          ∙ ap (λ (xs : List ℕ). text_of (trimmed (replicate (p - 1 - end) 0 ++ (xs ++ rest)))) (sym is);
    })

text-some : (bytes : List ℕ) → 1 ≤ length bytes → 1 ≤ length (text_of bytes)
text-some [] some = absurd (omega (arith, some))
text-some (b ∷ bytes) some = some-text b bytes

others-kept : (end p : ℕ) (x rest : List ℕ) (room : ℕ) → end < p → length x ≤ room → (length x ≡ room) ⊎ (rest ≡ [])
    → 1 ≤ length (trimmed x) → IsPlaced end p x rest (trimmed x) room
others-kept end p x rest room low few how some =
    let kept : List ℕ = trimmed x in
    let text : List ℕ = text_of kept in
    let tail = tail-zeros x in
    let size : length x ≡ length kept + tail.count =
    ap length tail.is ∙ length-append kept (replicate tail.count 0)
    ∙ ap (λ (n : ℕ). length kept + n) (length-replicate tail.count 0) in
    let after : end_after end p text ≡ p - 1 + length kept =
    after-some end p text (text-some kept some) ∙ ap (λ (n : ℕ). p - 1 + n) (count-text kept) in
    let all : (p - 1 + room - end_after end p text ≡ tail.count) ⊎ (rest ≡ []) = elim how [
      | inl full ↦ inl (omega (arith, full, size, after))
      | inr last ↦ inr last
    ] in
    record {
      low = omega (arith, low, few, after, size);
      text = ap (λ (t : List ℕ). t ++ text_of (trimmed (replicate (p - 1 + room - end_after end p text) 0 ++ rest)))
          (placed-some end p text (text-some kept some))
          ∙ place-some (p - 1 - end) tail.count (p - 1 + room - end_after end p text) x rest some all
          ∙ ap (λ (xs : List ℕ). text_of (trimmed (replicate (p - 1 - end) 0 ++ (xs ++ rest)))) (sym tail.is);
    }

none-or-some : (xs : List ℕ) → (xs ≡ []) ⊎ (1 ≤ length xs)
none-or-some [] = inl refl
none-or-some (x ∷ xs) = inr (omega arith)

is-placed : (end p : ℕ) (x rest : List ℕ) (room : ℕ) → end < p → length x ≤ room → (length x ≡ room) ⊎ (rest ≡ [])
    → IsPlaced end p x rest (trimmed x) room
is-placed end p x rest room low few how = elim (none-or-some (trimmed x)) [
  | inl none ↦ only-zeros end p x rest room low how none
  | inr some ↦ others-kept end p x rest room low few how some
]

-- a piece has all bytes up to the next position, or the record ends in it
piece-full : (r : List ℕ) (from to : ℕ) → from ≤ to
    → (length (slice_range r from to) ≡ to - from) ⊎ (drop to r ≡ [])
piece-full r from to le = elim (cases_lt to (length r)) [
  | inl inside ↦ inl (length-take-le (to - from) (drop from r) (omega (arith, inside, le, length-drop from r)))
  | inr past ↦ inr (drop_all to r past)
]

-- all pieces from this position on
back : (p : ℕ) (ps r : List ℕ) (end : ℕ) → end < p → AreRising p ps
    → joined_at end (p ∷ ps) (map text_of (map trimmed (pieces (p ∷ ps) r)))
    ≡ text_of (trimmed (replicate (p - 1 - end) 0 ++ drop (p - 1) r))
unfolding pieces joined_at
back p [] r end low rising =
    let x : List ℕ = drop (p - 1) r in
    let here = is-placed end p x [] (length x) low (omega arith) (inr refl) in
    let after : ℕ = end_after end p (text_of (trimmed x)) in
    let n : ℕ = p - 1 + length x - after in
    ap (λ (b : Bool). if b then placed end p (text_of (trimmed x)) ++ [] else 34 ∷ []) (lt-ltb end p low)
    ∙ ap (λ (xs : List ℕ). placed end p (text_of (trimmed x)) ++ text_of xs)
    (sym (ap trimmed (append-nil (replicate n 0)) ∙ zeros-none n))
    ∙ here.text ∙ ap (λ (xs : List ℕ). text_of (trimmed (replicate (p - 1 - end) 0 ++ xs))) (append-nil x)
back p (q ∷ ps) r end low rising =
    let x : List ℕ = slice_range r (p - 1) (q - 1) in
    let rest : List ℕ = drop (q - 1) r in
    let room : ℕ = q - 1 - (p - 1) in
    let le : p - 1 ≤ q - 1 = omega (arith, rising.0) in
    let here = is-placed end p x rest room low (omega (arith, length-take room (drop (p - 1) r)))
    (piece-full r (p - 1) (q - 1) le) in
    let after : ℕ = end_after end p (text_of (trimmed x)) in
    let next : p + room ≡ q = omega (arith, low, rising.0) in
    let left : q - 1 - after ≡ p - 1 + room - after = omega (arith, low, rising.0) in
    ap (λ (b : Bool). if b then placed end p (text_of (trimmed x))
    ++ joined_at after (q ∷ ps) (map text_of (map trimmed (pieces (q ∷ ps) r))) else 34 ∷ []) (lt-ltb end p low)
    ∙ ap (λ (t : List ℕ). placed end p (text_of (trimmed x)) ++ t)
    (back q ps r after (omega (arith, here.low, next)) rising.1
    ∙ ap (λ (n : ℕ). text_of (trimmed (replicate n 0 ++ rest))) left)
    ∙ here.text
    ∙ ap (λ (xs : List ℕ). text_of (trimmed (replicate (p - 1 - end) 0 ++ xs))) (sym (drop_split r (p - 1) (q - 1) le))

-- there is a piece for each position
some-piece : (p : ℕ) (ps r : List ℕ) → 1 ≤ length (map trimmed (pieces (p ∷ ps) r))
unfolding pieces
some-piece p [] r = omega arith
some-piece p (q ∷ ps) r = omega arith

texts-of : (fields : List (List ℕ)) → 1 ≤ length fields
    → map without_marks (cut false (columns_of_fields fields)) ≡ map text_of fields
texts-of [] some = absurd (omega (arith, some))
texts-of (field ∷ fields) some = texts-back field fields

pub pieces-back : (ps r : List ℕ) → slice_index ps 0 ≡ 1 → AreRising 0 ps
    → pieces_text ps (piece_columns ps r) ≡ text_of (trimmed r)
pieces-back [] r first rising = absurd (omega (arith, first))
pieces-back (p ∷ ps) r first rising =
    ap (joined_at 0 (p ∷ ps)) (texts-of (map trimmed (pieces (p ∷ ps) r)) (some-piece p ps r))
    ∙ back p ps r 0 rising.0 rising.1
    ∙ ap (λ (n : ℕ). text_of (trimmed (replicate (n - 1 - 0) 0 ++ drop (n - 1) r))) first
