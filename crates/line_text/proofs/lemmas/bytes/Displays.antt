-- Bytes displayed as text, texts of one byte more, and texts between quotation marks.
use Rattle.std.proofs.Common.{◌≡◌, ◌<◌, ◌≤◌, ◌+◌, ◌-◌, ◌/◌, ◌%◌, ℕ, List, [], ◌∷◌, ◌++◌, take, drop, get_or, length, true}
use Rattle.std.proofs.Common.{false, suc, length-append, ap, ap₂, sym, ◌∙◌, arith}
use Rattle.std.specs.Prelude.{Result, Ok, Err, nat_le, slice_range}
use Rattle.std.specs.Result.{IsErr, IsOk}
use Rattle.std.proofs.Math.Utf8.{encode}
use Rattle.std.proofs.Math.Seq.{get_or-append_seam}
use Rattle.std.proofs.lemmas.Bool.{and_parts, leb-true}
use Rattle.std.proofs.lemmas.Grind.{flat_map-append}
use Rattle.std.proofs.lemmas.List.{append_assoc, append-nil, drop_more, take_all, take_more}
use Rattle.std.proofs.lemmas.Str.{encode_ascii}
use Rattle.line_text.specs.bytes.Texts.{byte_text, digit, is_plain, text_of}
use Rattle.line_text.proofs.lemmas.bytes.Texts.{chosen, plain-byte}

-- a byte that stands for itself, and one that doesn't, as characters
pub plain-shown : (b c : ℕ) → c ≡ b → is_plain b ≡ true → encode c ≡ byte_text b
plain-shown b c is plain =
    let high : b ≤ 126 = leb-true b 126 (and_parts (nat_le b 126) _ (and_parts (nat_le 32 b) _ plain).1).0 in
    encode_ascii c (omega (arith, is, high)) ∙ ap (λ (n : ℕ). n ∷ []) is ∙ sym (plain-byte b plain)

digit-low : (n : ℕ) → n < 16 → digit n < 128
digit-low n low = grind arith

pub escaped-shown : (b high low : ℕ) → b < 256 → is_plain b ≡ false → high ≡ digit (b / 16) → low ≡ digit (b % 16)
    → 92 ∷ (encode high ++ encode low) ≡ byte_text b
escaped-shown b high low small plain first second =
    let h : encode high ≡ digit (b / 16) ∷ [] =
    ap encode first ∙ encode_ascii (digit (b / 16)) (digit-low (b / 16) (omega (arith, small))) in
    let l : encode low ≡ digit (b % 16) ∷ [] =
    ap encode second ∙ encode_ascii (digit (b % 16)) (digit-low (b % 16) (omega arith)) in
    ap₂ (λ (xs ys : List ℕ). 92 ∷ (xs ++ ys)) h l ∙ sym (ap (λ p. chosen p b) plain)

-- the text of one byte more, and of one alone
pub text-next : (xs : List ℕ) (i : ℕ) → i < length xs
    → text_of (take i xs) ++ byte_text (get_or xs i 0) ≡ text_of (take (i + 1) xs)
text-next xs i low =
    sym (ap text_of (take_more xs i 0 low) ∙ flat_map-append byte_text (take i xs) (get_or xs i 0 ∷ [])
    ∙ ap (λ (text : List ℕ). text_of (take i xs) ++ text) (append-nil (byte_text (get_or xs i 0))))

pub one-range : (xs : List ℕ) (start : ℕ) → start < length xs
    → byte_text (get_or xs start 0) ≡ text_of (slice_range xs start (start + 1))
one-range xs start low =
    sym (ap₂ (λ (n : ℕ) (ys : List ℕ). text_of (take n ys)) (let s : start + 1 - start ≡ 1 = omega arith in s)
    (drop_more xs start 0 low) ∙ append-nil (byte_text (get_or xs start 0)))

-- a byte's text that was put before those of the bytes that are left, and the end of these
pub put-more : (whole before rest all : List ℕ) → 1 ≤ length rest → whole ≡ before ++ byte_text (get_or rest 0 0)
    → before ++ text_of rest ≡ all → whole ++ text_of (drop 1 rest) ≡ all
put-more whole before [] all some here there = absurd (omega (arith, some))
put-more whole before (x ∷ rest) all some here there =
    ap (λ (text : List ℕ). text ++ text_of rest) here ∙ append_assoc before (byte_text x) (text_of rest) ∙ there

pub none-left : (before rest all : List ℕ) → length rest < 1 → before ++ text_of rest ≡ all → before ≡ all
none-left before [] all none there = sym (append-nil before) ∙ there
none-left before (x ∷ rest) all none there = absurd (omega (arith, none))

-- the ends of a text between quotation marks, and a text with these ends
pub quoted-ends : (text inner : List ℕ) → text ≡ 34 ∷ (inner ++ 34 ∷ [])
    → (2 ≤ length text) × (get_or text 0 0 ≡ 34) × (get_or text (length text - 1) 0 ≡ 34)
quoted-ends text inner is =
    let long : length text ≡ 2 + length inner =
    ap length is ∙ (let n = length-append inner (34 ∷ []) in omega (arith, n)) in
    let place : length text - 1 ≡ suc (length inner) = omega (arith, long) in (
      omega (arith, long),
      ap (λ (xs : List ℕ). get_or xs 0 0) is,
      ap₂ (λ (xs : List ℕ) (k : ℕ). get_or xs k 0) is place ∙ get_or-append_seam inner 34 [] 0,
    )

pub quoted-of : (text : List ℕ) → 2 ≤ length text → get_or text 0 0 ≡ 34 → get_or text (length text - 1) 0 ≡ 34
    → text ≡ 34 ∷ (take (length text - 1 - 1) (drop 1 text) ++ 34 ∷ [])
quoted-of [] long first last = absurd (omega (arith, long))
quoted-of (x ∷ rest) long first last =
    let n : ℕ = length rest - 1 in
    let end : get_or rest n 0 ≡ 34 =
    ap (λ k. get_or (x ∷ rest) k 0) (let s : suc n ≡ length (x ∷ rest) - 1 = omega (arith, long) in s) ∙ last in
    let all : rest ≡ take n rest ++ 34 ∷ [] =
    sym (take_all (n + 1) rest (omega (arith, long))) ∙ take_more rest n 0 (omega (arith, long))
    ∙ ap (λ c. take n rest ++ c ∷ []) end in
    let same : length (x ∷ rest) - 1 - 1 ≡ n = omega arith in
    ap₂ (λ y (ys : List ℕ). y ∷ ys) first
    (all ∙ ap (λ (k : ℕ). take k rest ++ 34 ∷ []) (sym same))

-- an error is no success
pub err-not-ok : {T E : Type 0} (r : Result T E) → IsErr r → IsOk r → ⊥
err-not-ok (Ok x) e o = cc
err-not-ok (Err y) e o = cc
