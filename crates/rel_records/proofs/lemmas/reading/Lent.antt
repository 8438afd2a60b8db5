-- Parts of blocks as they are lent and written.
use Rattle.std.proofs.Common.{List, ap, ap₂, append-nil, append_assoc, arith, drop, get_or, inl, inr, length}
use Rattle.std.proofs.Common.{length-append, length-drop, sym, take, ℕ, ◌++◌, ◌+◌, ◌-◌, ◌<◌, ◌∙◌, ◌≡◌, ◌≤◌}
use Rattle.std.proofs.Math.ListN.{get_or-append}
use Rattle.std.proofs.Math.Seq.{drop-append-add, take-append-add}
use Rattle.std.proofs.lemmas.Bool.{cases_lt}
use Rattle.std.proofs.lemmas.List.{drop-append-le, drop-drop, drop_all, get_or-append_right, get_or-replicate}
use Rattle.std.proofs.lemmas.List.{get_or-take, get_or_default, get_or_past, length-replicate, length-take-le}
use Rattle.std.proofs.lemmas.List.{same_lists, take-append-le, take_all, take_min}
use Rattle.std.specs.Prelude.{min, replicate}
use Rattle.std.proofs.lemmas.Slice.{drop-put_mid, take-put_mid}
use borrow.Rule.Slice.PartMut.{mid_of, put_mid, same_len_mid}
use Rattle.rel_records.proofs.lemmas.writing.Bytes.{get_or-padded, length-padded}
use Rattle.rel_records.specs.Written.{patched}

-- two lists of numbers with the same bytes
pub same_bytes : (xs ys : List ℕ) → length xs ≡ length ys → ((i : ℕ) → i < length xs → get_or xs i 0 ≡ get_or ys i 0)
    → xs ≡ ys
same_bytes xs ys e each = same_lists xs ys e (λ i d h. get_or_default xs i d 0 h ∙ each i h
    ∙ sym (get_or_default ys i d 0 (omega (arith, h, e))))

-- a text of n bytes, zeros behind it
pub padded : (n f : ℕ) (text : List ℕ) → f ≡ min (length text) n
    → take f text ++ replicate (n - f) 0 ≡ take n (text ++ replicate n 0)
padded n f text is = same_bytes _ _ (left ∙ sym right) (λ i h. each i (omega (arith, h, left))
    ∙ sym (get_or-padded text n i) ∙ sym (get_or-take n (text ++ replicate n 0) i 0 (omega (arith, h, left))))
  where
    front : length (take f text) ≡ f
    front = length-take-le f text (omega (arith, is))

    left : length (take f text ++ replicate (n - f) 0) ≡ n
    left = omega (
      arith,
      is,
      front,
      length-append (take f text) (replicate (n - f) 0),
      length-replicate {A = ℕ} (n - f) 0,
    )

    right : length (take n (text ++ replicate n 0)) ≡ n
    right = length-take-le n _ (length-padded text n)

    each : (i : ℕ) → i < n → get_or (take f text ++ replicate (n - f) 0) i 0 ≡ get_or text i 0
    each i h = elim (cases_lt i f) [
      | inl low ↦ get_or-append (take f text) (replicate (n - f) 0) 0 i (omega (arith, front, low))
          ∙ get_or-take f text i 0 low
      | inr high ↦ get_or-append_right (take f text) (replicate (n - f) 0) f i 0 front high
          ∙ get_or-replicate {A = ℕ} (n - f) (i - f) 0 0 (omega (arith, h, high))
          ∙ sym (get_or_past text i 0 (omega (arith, h, high, is)))
    ]

-- what lies past the end is neither dropped nor there
cut : (n m : ℕ) (xs : List ℕ) → m ≡ min n (length xs) → drop m xs ≡ drop n xs
cut n m xs is = elim (cases_lt n (length xs)) [
  | inl low ↦ ap (λ (k : ℕ). drop k xs) (omega (arith, is, low))
  | inr past ↦ drop_all m xs (omega (arith, is, past)) ∙ sym (drop_all n xs past)
]

-- a record in the data of two blocks, cut off where the second ends
pub parts-joined : (a b : List ℕ) (start size from here next there j k : ℕ) → length a ≡ 256 → length b ≡ 256
    → from ≡ min start 254 → here ≡ min size (254 - from) → next ≡ min (start - from) 254
    → there ≡ min (size - here) (254 - next) → j ≡ here → k ≡ there
    → take j (drop (2 + from) a) ++ take k (drop (2 + next) b) ≡ take size (drop start (drop 2 a ++ drop 2 b))
parts-joined a b start size from here next there j k long_a long_b ef eh en et ej ek =
    ap₂ (λ (us vs : List ℕ). us ++ vs) first second ∙ sym (ap (take size) whole ∙ split)
  where
    A : List ℕ
    A = drop 2 a

    B : List ℕ
    B = drop 2 b

    all_a : length A ≡ 254
    all_a = length-drop 2 a ∙ omega (arith, long_a)

    all_b : length B ≡ 254
    all_b = length-drop 2 b ∙ omega (arith, long_b)

    X : List ℕ
    X = drop start A

    Y : List ℕ
    Y = drop (start - 254) B

    many : length X ≡ 254 - start
    many = length-drop start A ∙ omega (arith, all_a)

    rest : length Y ≡ 254 - (start - 254)
    rest = length-drop (start - 254) B ∙ omega (arith, all_b)

    first : take j (drop (2 + from) a) ≡ take size X
    first = ap₂ take (omega (arith, ej, eh, ef, many))
        (sym (drop-drop from 2 a) ∙ cut start from A (omega (arith, ef, all_a)))
        ∙ take_min size X

    second : take k (drop (2 + next) b) ≡ take (size - length X) Y
    second = ap₂ take (omega (arith, ek, et, en, eh, ef, many, rest))
        (sym (drop-drop next 2 b) ∙ cut (start - 254) next B (omega (arith, en, ef, all_b)))
        ∙ take_min (size - length X) Y

    whole : drop start (A ++ B) ≡ X ++ Y
    whole = elim (cases_lt 254 start) [
      | inl past ↦
          let n : start ≡ length A + (start - 254) = omega (arith, all_a, past) in
          ap (λ (m : ℕ). drop m (A ++ B)) n ∙ drop-append-add A B (start - 254)
          ∙ ap (λ (xs : List ℕ). xs ++ Y) (sym (drop_all start A (omega (arith, all_a, past))))
      | inr near ↦
          let none : 0 ≡ start - 254 = omega (arith, near) in
          drop-append-le start A B (omega (arith, all_a, near)) ∙ ap (λ (m : ℕ). X ++ drop m B) none
    ]

    split : take size (X ++ Y) ≡ take size X ++ take (size - length X) Y
    split = elim (cases_lt (length X) size) [
      | inl more ↦
          let n : size ≡ length X + (size - length X) = omega (arith, more) in
          ap (λ (m : ℕ). take m (X ++ Y)) n ∙ take-append-add X Y (size - length X)
          ∙ ap (λ (xs : List ℕ). xs ++ take (size - length X) Y) (sym (take_all size X (omega (arith, more))))
      | inr fits ↦
          let none : 0 ≡ size - length X = omega (arith, fits) in
          take-append-le size X Y fits ∙ sym (append-nil (take size X))
          ∙ ap (λ (m : ℕ). take size X ++ take m Y) none
    ]

-- a block in which the bytes of a text were put, and zeros behind them
pub put-patched : (s e k m fits : ℕ) (text bytes ys zs : List ℕ) → length bytes ≡ 256 → e ≤ 254 → s ≤ e
    → fits ≡ min (length text) (e - s) → k ≡ fits → m ≡ e - s - fits → ys ≡ take fits text
    → zs ≡ replicate (length (mid_of (2 + s + fits) m (put_mid (2 + s) k bytes ys))) 0
    → put_mid (2 + s + fits) m (put_mid (2 + s) k bytes ys) zs ≡ patched s e text bytes
put-patched s e k m fits text bytes ys zs whole room order is ek em copied cleared =
    ap₂ (λ (us vs : List ℕ). us ++ (zs ++ vs)) front behind
    ∙ append_assoc (take (2 + s) bytes) ys (zs ++ drop (2 + e) bytes)
    ∙ ap (λ (us : List ℕ). take (2 + s) bytes ++ us) (sym (append_assoc ys zs (drop (2 + e) bytes))
    ∙ ap (λ (us : List ℕ). us ++ drop (2 + e) bytes) mid)
  where
    long : length ys ≡ fits
    long = ap length copied ∙ length-take-le fits text (omega (arith, is))

    patch : List ℕ
    patch = put_mid (2 + s) k bytes ys

    front : take (2 + s + fits) patch ≡ take (2 + s) bytes ++ ys
    front = take-put_mid (2 + s) k bytes ys (2 + s + fits) (omega (arith, long)) (omega (arith, whole, room, order))

    behind : drop m (drop (2 + s + fits) patch) ≡ drop (2 + e) bytes
    behind = drop-drop m (2 + s + fits) patch ∙ ap (λ (n : ℕ). drop n patch) (omega (arith, em, is, order))
        ∙ drop-put_mid (2 + s) k bytes ys (2 + e) (omega (arith, ek, is, order)) (omega (arith, whole, room, order))
        (omega (arith, long, ek))

    size : length patch ≡ 256
    size = same_len_mid (2 + s) k bytes ys
        (omega (
          arith,
          long,
          ek,
          length-take-le k (drop (2 + s) bytes) (omega (
            arith,
            length-drop (2 + s) bytes,
            whole,
            room,
            order,
            ek,
            is,
          )),
        )) ∙ whole

    count : length (mid_of (2 + s + fits) m patch) ≡ e - s - fits
    count = length-take-le m (drop (2 + s + fits) patch) (omega (
      arith,
      length-drop (2 + s + fits) patch,
      size,
      em,
      room,
      order,
      is,
    )) ∙ em

    mid : ys ++ zs ≡ take (e - s) (text ++ replicate (e - s) 0)
    mid = ap₂ (λ (us vs : List ℕ). us ++ vs) copied (cleared ∙ ap (λ (n : ℕ). replicate n 0) count)
        ∙ padded (e - s) fits text is
