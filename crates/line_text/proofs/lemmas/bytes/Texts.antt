-- Bytes and their texts: one text for each list of bytes.
use Rattle.std.proofs.Common.{◌≡◌, ◌≢◌, ◌<◌, ◌≤◌, ◌+◌, ◌-◌, ◌/◌, ◌%◌, ℕ, suc, List, [], ◌∷◌, ◌++◌, Option}
use Rattle.std.proofs.Common.{length, take, drop, get_or, Bool, true, false, length-append, refl, subst, sym, ap}
use Rattle.std.proofs.Common.{ap₂, ◌∙◌, ◌⊎◌, inl, inr, arith}
use Rattle.std.specs.Prelude.{if◌then◌else◌, slice_index, slice_range, MatchOption, None, Some}
use Rattle.std.specs.Io.KnownBytes.{Appends}
use Rattle.std.proofs.Math.Seq.{get_or-append_seam}
use Rattle.std.proofs.KnownBytes.{Appends-trans}
use Rattle.std.proofs.Math.Seq.{take-append-add}
use Rattle.std.proofs.lemmas.Grind.{flat_map-append}
use Rattle.std.proofs.lemmas.List.{append_assoc, append-nil, get_or-drop, get_or-take}
use Rattle.std.proofs.lemmas.List.{length-take, length-take-le, take-append-drop}
use Rattle.line_text.specs.bytes.Texts.{AreBytes, byte_text, digit, is_plain, text_of}

-- a digit is of one number
digit-one : (m n : ℕ) → digit m ≡ digit n → m ≡ n
digit-one m n same = grind arith

abbrev pub chosen : Bool → ℕ → List ℕ
chosen plain b = if plain then b ∷ [] else 92 ∷ digit (b / 16) ∷ digit (b % 16) ∷ []

pub plain-byte : (b : ℕ) → is_plain b ≡ true → byte_text b ≡ b ∷ []
plain-byte b plain = ap (λ (p : Bool). chosen p b) plain

-- bytes that stand for themselves are their own text
text-plain : (xs : List ℕ) → ((i : ℕ) → i < length xs → is_plain (get_or xs i 0) ≡ true) → text_of xs ≡ xs
text-plain [] plain = refl
text-plain (x ∷ xs) plain =
    let here : byte_text x ≡ x ∷ [] = plain-byte x (plain 0 (omega arith)) in
    let rest : text_of xs ≡ xs = text-plain xs (λ i lt. plain (suc i) (omega (arith, lt))) in
    ap₂ (λ (a b : List ℕ). a ++ b) here rest

-- the same of a part of them
pub range-plain : (xs : List ℕ) (start end : ℕ) → start ≤ end → end ≤ length xs
    → ((i : ℕ) → start ≤ i → i < end → is_plain (slice_index xs i) ≡ true)
    → text_of (slice_range xs start end) ≡ slice_range xs start end
range-plain xs start end low high plain =
    let long : length (slice_range xs start end) ≤ end - start =
    omega (arith, length-take (end - start) (drop start xs)) in
    text-plain (slice_range xs start end) (λ i lt.
    let inside : i < end - start = omega (arith, lt, long) in
    let here : get_or (slice_range xs start end) i 0 ≡ slice_index xs (start + i) =
    get_or-take (end - start) (drop start xs) i 0 inside ∙ get_or-drop start xs i 0 in
    ap is_plain here ∙ plain (start + i) (omega arith) (omega (arith, inside)))

-- the texts of two parts, written one after the other
pub text-more : (a b c : Option (List ℕ)) (xs : List ℕ) (start end : ℕ) → start ≤ end → end ≤ length xs
    → Appends a b (text_of (take start xs)) → Appends b c (text_of (slice_range xs start end))
    → Appends a c (text_of (take end xs))
text-more a b c xs start end low high before more =
    let first : length (take start xs) ≡ start = length-take-le start xs (omega (arith, low, high)) in
    let last : length (take start xs) + (end - start) ≡ end = omega (arith, first, low) in
    let both : take end xs ≡ take start xs ++ slice_range xs start end =
    ap₂ (λ (n : ℕ) (ys : List ℕ). take n ys) (sym last) (sym (take-append-drop start xs))
    ∙ take-append-add (take start xs) (drop start xs) (end - start) in
    subst (Appends a c) (sym (ap text_of both ∙ flat_map-append byte_text (take start xs) (slice_range xs start end)))
    (Appends-trans a b c _ _ before more)

at : (i : ℕ) (xs ys : List ℕ) → xs ≡ ys → get_or xs i 0 ≡ get_or ys i 0
at i xs ys same = ap (λ (zs : List ℕ). get_or zs i 0) same

chosen-one : (p q : Bool) (b c : ℕ) (xs ys : List ℕ) → is_plain b ≡ p → is_plain c ≡ q
    → chosen p b ++ xs ≡ chosen q c ++ ys → b ≡ c
chosen-one true true b c xs ys hb hc same = at 0 (b ∷ xs) (c ∷ ys) same
chosen-one true false b c xs ys hb hc same =
    let is : b ≡ 92 = at 0 _ _ same in
    absurd (cc (subst (λ (n : ℕ). is_plain n ≡ true) is hb))
chosen-one false true b c xs ys hb hc same =
    let is : 92 ≡ c = at 0 _ _ same in
    absurd (cc (subst (λ (n : ℕ). is_plain n ≡ true) (sym is) hc))
chosen-one false false b c xs ys hb hc same =
    let high : b / 16 ≡ c / 16 = digit-one (b / 16) (c / 16) (at 1 _ _ same) in
    let low : b % 16 ≡ c % 16 = digit-one (b % 16) (c % 16) (at 2 _ _ same) in
    omega (arith, high, low)

-- a text is of one byte, and what stands behind it is one list
first-one : (b c : ℕ) (xs ys : List ℕ) → byte_text b ++ xs ≡ byte_text c ++ ys → b ≡ c
first-one b c xs ys same = chosen-one (is_plain b) (is_plain c) b c xs ys refl refl same

behind-plain : (p : Bool) (b : ℕ) (xs ys : List ℕ) → chosen p b ++ xs ≡ chosen p b ++ ys → xs ≡ ys
behind-plain true b xs ys same = ap (λ (zs : List ℕ). drop 1 zs) same
behind-plain false b xs ys same = ap (λ (zs : List ℕ). drop 3 zs) same

behind-one : (b : ℕ) (xs ys : List ℕ) → byte_text b ++ xs ≡ byte_text b ++ ys → xs ≡ ys
behind-one b xs ys same = behind-plain (is_plain b) b xs ys same

long-chosen : (p : Bool) (b : ℕ) → 1 ≤ length (chosen p b)
long-chosen true b = omega arith
long-chosen false b = omega arith

never-empty : (b : ℕ) (xs : List ℕ) → byte_text b ++ xs ≡ [] → ⊥
never-empty b xs same =
    let long : 1 ≤ length (byte_text b) = long-chosen (is_plain b) b in
    let none : length (byte_text b ++ xs) ≡ 0 = ap length same in
    omega (arith, long, none, length-append (byte_text b) xs)

-- a backslash and two bytes at the front that are no byte's text
pub escaped-front : (text : List ℕ) → 3 ≤ length text → get_or text 0 0 ≡ 92
    → text ≡ 92 ∷ get_or text 1 0 ∷ get_or text 2 0 ∷ drop 3 text
escaped-front [] long is = absurd (omega (arith, long))
escaped-front (a ∷ []) long is = absurd (omega (arith, long))
escaped-front (a ∷ b ∷ []) long is = absurd (omega (arith, long))
escaped-front (a ∷ b ∷ c ∷ rest) long is = ap (λ (x : ℕ). x ∷ b ∷ c ∷ rest) is

escaped-chosen : (p : Bool) (b high low : ℕ) (more rest : List ℕ) → is_plain b ≡ p
    → 92 ∷ high ∷ low ∷ more ≡ chosen p b ++ rest → 92 ∷ high ∷ low ∷ rest ≡ chosen p b ++ rest
escaped-chosen true b high low more rest is same =
    let slash : 92 ≡ b = at 0 _ _ same in
    absurd (cc (subst (λ (n : ℕ). is_plain n ≡ true) (sym slash) is))
escaped-chosen false b high low more rest is same =
    ap₂ (λ (x y : ℕ). 92 ∷ x ∷ y ∷ rest) (at 1 _ _ same) (at 2 _ _ same)

pub escaped-none : (text : List ℕ) (high low : ℕ) (more : List ℕ) → text ≡ 92 ∷ high ∷ low ∷ more
    → ((b : ℕ) (rest : List ℕ) → b < 256 → 92 ∷ high ∷ low ∷ rest ≢ byte_text b ++ rest)
    → (b : ℕ) (rest : List ℕ) → b < 256 → text ≢ byte_text b ++ rest
escaped-none text high low more is none b rest small same =
    none b rest small (escaped-chosen (is_plain b) b high low more rest refl (sym is ∙ same))

-- a byte at the front that stands for itself
pub plain-front : (text : List ℕ) → is_plain (get_or text 0 0) ≡ true
    → text ≡ byte_text (get_or text 0 0) ++ drop 1 text
plain-front [] plain = cc
plain-front (x ∷ rest) plain = ap (λ (xs : List ℕ). xs ++ rest) (sym (plain-byte x plain))

-- what stands at the front of a text that a byte leads
front-chosen : (p : Bool) (b : ℕ) (text rest : List ℕ) → is_plain b ≡ p → text ≡ chosen p b ++ rest
    → (is_plain (get_or text 0 0) ≡ true) ⊎ ((3 ≤ length text) × (get_or text 0 0 ≡ 92))
front-chosen true b text rest is same = inl (ap is_plain (at 0 _ _ same) ∙ is)
front-chosen false b text rest is same = inr (omega (arith, ap length same), at 0 _ _ same)

pub front-of : (b : ℕ) (text rest : List ℕ) → text ≡ byte_text b ++ rest
    → (is_plain (get_or text 0 0) ≡ true) ⊎ ((3 ≤ length text) × (get_or text 0 0 ≡ 92))
front-of b text rest same = front-chosen (is_plain b) b text rest refl same

pub some-lead : (b : ℕ) (text rest : List ℕ) → text ≡ byte_text b ++ rest → 1 ≤ length text
some-lead b text rest same =
    omega (arith, ap length same, length-append (byte_text b) rest, long-chosen (is_plain b) b)

-- what is said where nothing was found
pub none-found : {A : Type 0} (o : Option A) (P : Type 0) (Q : A → Type 0) → o ≡ None → P → MatchOption o P Q
none-found (Some x) P Q e p = cc
none-found None P Q e p = p

-- what stands behind the text of the first bytes is the text of the others
pub record IsBehind (pre bytes rest : List ℕ) : Type 0 where
  pub behind : List ℕ
  pub split : bytes ≡ pre ++ behind
  pub text : rest ≡ text_of behind

pub behind-of : (pre bytes rest : List ℕ) → text_of pre ++ rest ≡ text_of bytes → IsBehind pre bytes rest
behind-of [] bytes rest same = record { behind = bytes; split = refl; text = same }
behind-of (b ∷ pre) [] rest same =
    absurd (never-empty b (text_of pre ++ rest) (sym (append_assoc (byte_text b) (text_of pre) rest) ∙ same))
behind-of (b ∷ pre) (c ∷ bytes) rest same =
    let moved : byte_text b ++ (text_of pre ++ rest) ≡ byte_text c ++ text_of bytes =
    sym (append_assoc (byte_text b) (text_of pre) rest) ∙ same in
    let one : b ≡ c = first-one b c _ _ moved in
    let others : text_of pre ++ rest ≡ text_of bytes =
    behind-one b _ _ (moved ∙ ap (λ (n : ℕ). byte_text n ++ text_of bytes) (sym one)) in
    let x = behind-of pre bytes rest others in
    record {
      behind = x.behind;
      split = ap₂ (λ (n : ℕ) (ns : List ℕ). n ∷ ns) (sym one) x.split;
      text = x.text;
    }

none-behind : (xs ys behind : List ℕ) → ys ≡ xs ++ behind → [] ≡ text_of behind → xs ≡ ys
none-behind xs ys [] split text = sym (split ∙ append-nil xs)
none-behind xs ys (b ∷ bs) split text = absurd (never-empty b (text_of bs) (sym text))

-- two lists with one text are one
pub one-text : (xs ys : List ℕ) → text_of xs ≡ text_of ys → xs ≡ ys
one-text xs ys same =
    let x = behind-of xs ys [] (append-nil (text_of xs) ∙ same) in
    none-behind xs ys x.behind x.split x.text

none-leads : (rest pre bytes behind : List ℕ) → 1 ≤ length rest
    → ((b : ℕ) (xs : List ℕ) → b < 256 → rest ≢ byte_text b ++ xs)
    → AreBytes bytes → bytes ≡ pre ++ behind → rest ≡ text_of behind → ⊥
none-leads rest pre bytes [] some none small split text = omega (arith, some, ap length text)
none-leads rest pre bytes (b ∷ bs) some none small split text =
    let here : get_or bytes (length pre) 0 ≡ b = ap (λ (zs : List ℕ). get_or zs (length pre) 0) split
    ∙ get_or-append_seam pre b bs 0 in
    let inside : length pre < length bytes = omega (arith, ap length split, length-append pre (b ∷ bs)) in
    none b (text_of bs) (subst (λ (n : ℕ). n < 256) here (small (length pre) 0 inside)) text

-- a text that no byte leads is of no bytes
pub none-here : (text rest pre : List ℕ) → text ≡ text_of pre ++ rest → 1 ≤ length rest
    → ((b : ℕ) (xs : List ℕ) → b < 256 → rest ≢ byte_text b ++ xs) → (bytes : List ℕ) → AreBytes bytes
    → text ≢ text_of bytes
none-here text rest pre is some none bytes small same =
    let x = behind-of pre bytes rest (sym is ∙ same) in
    none-leads rest pre bytes x.behind some none small x.split x.text

no-room : (rest pre bytes behind : List ℕ) → 1 ≤ length rest → 254 ≤ length pre → length bytes ≤ 254
    → bytes ≡ pre ++ behind → rest ≡ text_of behind → ⊥
no-room rest pre bytes [] some full few split text = omega (arith, some, ap length text)
no-room rest pre bytes (b ∷ bs) some full few split text =
    omega (arith, full, few, ap length split, length-append pre (b ∷ bs))

-- a text of more bytes than there is room for is of no fewer
pub none-more : (text rest pre : List ℕ) → text ≡ text_of pre ++ rest → 1 ≤ length rest → 254 ≤ length pre
    → (bytes : List ℕ) → length bytes ≤ 254 → text ≢ text_of bytes
none-more text rest pre is some full bytes few same =
    let x = behind-of pre bytes rest (sym is ∙ same) in
    no-room rest pre bytes x.behind some full few x.split x.text
