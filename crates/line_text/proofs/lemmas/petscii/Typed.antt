-- A text that is typed is of one list of bytes.
use Rattle.std.proofs.Common.{◌≡◌, ◌≢◌, ◌<◌, ◌≤◌, ◌+◌, ◌-◌, ◌/◌, ◌%◌, ◌⊎◌, inl, inr, ℕ, zero, suc, List, [], ◌∷◌, ◌++◌, Option, Some, None}
use Rattle.std.proofs.Common.{Bool, true, false, length, take, drop, get_or, refl, subst, sym, ap, ap₂, ◌∙◌, arith, length-append}
use Rattle.std.specs.Prelude.{if◌then◌else◌, codes, nat_eq, nat_lt, flat_map}
use Rattle.std.specs.List.{AllByRecursion}
use Rattle.std.proofs.Math.Utf8.{encode}
use Rattle.std.proofs.lemmas.Bool.{eqb-true, false≢true}
use Rattle.std.proofs.lemmas.Bool.Decides.{eqb_tells}
use Rattle.std.proofs.lemmas.Grind.{flat_map-append}
use Rattle.std.proofs.lemmas.Str.{encode_ascii, encode_same, length-encode, len_utf8_bounds}
use Rattle.std.proofs.lemmas.List.{append_assoc, append_cancel_left, append-nil, drop_more, take-append-drop, take_all}
use Rattle.line_text.proofs.lemmas.petscii.Quoted.{one_line-next}
use Rattle.std.proofs.Math.Seq.{take-append_seam}
use Rattle.line_text.specs.petscii.Characters.{blocks, character_of, hex_digit, letters, readable_byte, shifted, shown}
use Rattle.line_text.specs.petscii.Quoted.{one_line, quoted_byte}
use Rattle.line_text.specs.petscii.Typing.{IsTyped, is_typed}
use Rattle.line_text.specs.declared.petscii.characters.CharacterSet.{CharacterSet}
use Rattle.line_text.specs.declared.petscii.characters.CharacterSet.TheVariants.{Graphics, Mixed}

-- a text begins with a front
pub taken-front : (text front rest : List ℕ) → text ≡ front ++ rest → take (length front) text ≡ front
taken-front text front rest is = ap (λ (xs : List ℕ). take (length front) xs) is ∙ take-append_seam front rest

-- the byte of a keyboard that shows a character, by the character's place among those from $40 on
abbrev place_in : ℕ → List ℕ → ℕ
place_in c [] = 0
place_in c (x ∷ xs) = if nat_eq x c then 0 else suc (place_in c xs)

abbrev byte_at : ℕ → ℕ
byte_at p = if nat_lt p 32 then 64 + p else 128 + p

abbrev byte_for : CharacterSet → ℕ → ℕ
byte_for set c = if nat_lt c 64 then c else byte_at (place_in c (letters set ++ (blocks set ++ shifted set)))

abbrev is_for : CharacterSet → ℕ → Option ℕ → Bool
is_for set b None = true
is_for set b (Some c) = nat_eq (byte_for set c) b

abbrev holds_at : CharacterSet → ℕ → Bool
holds_at set b = if is_typed b then is_for set b (character_of set b) else true

abbrev all_to : CharacterSet → ℕ → Bool
all_to set zero = true
all_to set (suc n) = if holds_at set n then all_to set n else false

all-hold : (set : CharacterSet) → all_to set 224 ≡ true
unfolding character_of
all-hold Graphics = refl
all-hold Mixed = refl

step-holds : (p q : Bool) → (if p then q else false) ≡ true → (p ≡ true) × (q ≡ true)
step-holds true q e = (refl, e)
step-holds false q e = absurd (false≢true e)

hold-at : (set : CharacterSet) (n b : ℕ) → all_to set n ≡ true → b < n → holds_at set b ≡ true
hold-at set zero b all low = absurd (omega (arith, low))
hold-at set (suc n) b all low =
    let both = step-holds (holds_at set n) (all_to set n) all in
    elim (eqb_tells b n) [
      | inl same ↦ subst (λ (m : ℕ). holds_at set m ≡ true) (sym same.1) both.0
      | inr other ↦ hold-at set n b both.1 (omega (arith, low, other.1))
    ]

typed-low : (b : ℕ) → is_typed b ≡ true → b < 224
typed-low b typed = grind (arith, typed)

found-for : (set : CharacterSet) (b c : ℕ) (o : Option ℕ) → o ≡ Some c → is_for set b o ≡ true → byte_for set c ≡ b
found-for set b c o is e = eqb-true (byte_for set c) b (subst (λ (p : Option ℕ). is_for set b p ≡ true) is e)

holds-typed : (p q : Bool) → p ≡ true → (if p then q else true) ≡ true → q ≡ true
holds-typed true q e h = h
holds-typed false q e h = absurd (false≢true e)

-- the byte of a keyboard that shows this character
byte-of : (set : CharacterSet) (b c : ℕ) → is_typed b ≡ true → character_of set b ≡ Some c → byte_for set c ≡ b
byte-of set b c typed is =
    found-for set b c (character_of set b) is
    (holds-typed (is_typed b) (is_for set b (character_of set b)) typed
    (hold-at set 224 b (all-hold set) (typed-low b typed)))

slash-for : (set : CharacterSet) → byte_for set 92 ≡ 224
slash-for Graphics = refl
slash-for Mixed = refl

not-eq : (a b : ℕ) → a ≢ b → nat_eq a b ≡ false
not-eq a b other = elim (eqb_tells a b) [
  | inl same ↦ absurd (other same.1)
  | inr differ ↦ differ.0
]

-- what the text of a byte is
record IsSlashed (set : CharacterSet) (b : ℕ) : Type 0 where
  pub text : quoted_byte set b ≡ 92 ∷ hex_digit (b / 16) ∷ hex_digit (b % 16) ∷ []

record IsShown (set : CharacterSet) (b : ℕ) : Type 0 where
  pub other : b ≢ 34
  pub c : ℕ
  pub is : character_of set b ≡ Some c
  pub text : quoted_byte set b ≡ encode c

abbrev Kind : CharacterSet → ℕ → Type 0
Kind set b = (b ≡ 34) ⊎ (IsSlashed set b ⊎ IsShown set b)

abbrev pick : Bool → Bool → CharacterSet → ℕ → List ℕ
pick mark cr set b =
    if mark then codes "\"\"" else (if cr then codes "\\0d" else (if cr then 10 ∷ [] else shown (character_of set b) b))

other-text : (set : CharacterSet) (b : ℕ) → b ≢ 34 → b ≢ 13 → quoted_byte set b ≡ shown (character_of set b) b
other-text set b mark cr = ap₂ (λ (p q : Bool). pick p q set b) (not-eq b 34 mark) (not-eq b 13 cr)

other-kind : (set : CharacterSet) (b : ℕ) (o : Option ℕ) → b ≢ 34 → character_of set b ≡ o → quoted_byte set b ≡ shown o b
    → Kind set b
other-kind set b None other is text = inr (inl (record { text = text }))
other-kind set b (Some c) other is text = inr (inr (record { other = other; c = c; is = is; text = text }))

cr-text : (set : CharacterSet) → quoted_byte set 13 ≡ 92 ∷ hex_digit (13 / 16) ∷ hex_digit (13 % 16) ∷ []
cr-text set = refl

kind-of : (set : CharacterSet) (b : ℕ) → Kind set b
kind-of set b = elim (eqb_tells b 34) [
  | inl mark ↦ inl mark.1
  | inr other ↦ elim (eqb_tells b 13) [
    | inl cr ↦ inr (inl (record {
      text = subst (λ (n : ℕ). quoted_byte set n ≡ 92 ∷ hex_digit (n / 16) ∷ hex_digit (n % 16) ∷ [])
          (sym cr.1) (cr-text set);
    }))
    | inr none ↦ other-kind set b (character_of set b) other.1 refl (other-text set b other.1 none.1)
  ]
]

mark-text : (set : CharacterSet) (b : ℕ) → b ≡ 34 → quoted_byte set b ≡ 34 ∷ 34 ∷ []
mark-text set b is = ap (quoted_byte set) is

cr-none : (set : CharacterSet) → character_of set 13 ≡ None
unfolding character_of
cr-none set = refl

none-some : (o : Option ℕ) (c : ℕ) → o ≡ None → o ≡ Some c → ⊥
none-some o c none some = cc

-- a byte with a character, except the mark, is written as the character
pub shown-text : (set : CharacterSet) (b c : ℕ) → b ≢ 34 → character_of set b ≡ Some c → quoted_byte set b ≡ encode c
shown-text set b c other is =
    other-text set b other (λ cr. none-some (character_of set b) c (ap (character_of set) cr ∙ cr-none set) is)
    ∙ ap (λ (o : Option ℕ). shown o b) is

moved : (p q s t xs ys : List ℕ) → p ≡ s → q ≡ t → p ++ xs ≡ q ++ ys → s ++ xs ≡ t ++ ys
moved p q s t xs ys e f same = sym (ap (λ (zs : List ℕ). zs ++ xs) e) ∙ same ∙ ap (λ (zs : List ℕ). zs ++ ys) f

at : (i : ℕ) (xs ys : List ℕ) → xs ≡ ys → get_or xs i 0 ≡ get_or ys i 0
at i xs ys same = ap (λ (zs : List ℕ). get_or zs i 0) same

digit-one : (m n : ℕ) → hex_digit m ≡ hex_digit n → m ≡ n
digit-one m n same = grind arith

-- a character that is at the front of this text, which begins with a byte below 128, is that byte
first-is : (c b : ℕ) (xs ys : List ℕ) → b < 128 → b ∷ xs ≡ encode c ++ ys → b ≡ c
first-is c b xs ys low same =
    (encode_same b c xs ys (ap (λ (zs : List ℕ). zs ++ xs) (encode_ascii b low) ∙ same)).0

mark-shown : (set : CharacterSet) (c d : ℕ) → is_typed c ≡ true → c ≢ 34 → character_of set c ≡ Some d → 34 ≡ d → ⊥
mark-shown set c d typed other is same =
    other (sym (byte-of set c 34 typed (is ∙ ap Some (sym same))))

slash-shown : (set : CharacterSet) (c d : ℕ) → is_typed c ≡ true → character_of set c ≡ Some d → 92 ≡ d → ⊥
slash-shown set c d typed is same =
    let high : c ≡ 224 = sym (byte-of set c 92 typed (is ∙ ap Some (sym same))) ∙ slash-for set in
    omega (arith, typed-low c typed, high)

abbrev Same : (b c : ℕ) (xs ys : List ℕ) → Type 0
Same b c xs ys = (b ≡ c) × (xs ≡ ys)

both-slashed : (b c : ℕ) (xs ys : List ℕ)
    → 92 ∷ hex_digit (b / 16) ∷ hex_digit (b % 16) ∷ xs ≡ 92 ∷ hex_digit (c / 16) ∷ hex_digit (c % 16) ∷ ys → Same b c xs ys
both-slashed b c xs ys same =
    let high : b / 16 ≡ c / 16 = digit-one (b / 16) (c / 16) (at 1 _ _ same) in
    let low : b % 16 ≡ c % 16 = digit-one (b % 16) (c % 16) (at 2 _ _ same) in
    (omega (arith, high, low), ap (λ (zs : List ℕ). drop 3 zs) same)

both-shown : (set : CharacterSet) (b c m n : ℕ) (xs ys : List ℕ) → is_typed b ≡ true → is_typed c ≡ true
    → character_of set b ≡ Some m → character_of set c ≡ Some n → encode m ++ xs ≡ encode n ++ ys → Same b c xs ys
both-shown set b c m n xs ys tb tc isb isc same =
    let one = encode_same m n xs ys same in
    (sym (byte-of set b m tb isb) ∙ byte-of set c m tc (isc ∙ ap Some (sym one.0)), one.1)

kinds-one : (set : CharacterSet) (b c : ℕ) (xs ys : List ℕ) → is_typed b ≡ true → is_typed c ≡ true → Kind set b → Kind set c
    → quoted_byte set b ++ xs ≡ quoted_byte set c ++ ys → Same b c xs ys
kinds-one set b c xs ys tb tc (inl mb) (inl mc) same =
    (mb ∙ sym mc, ap (λ (zs : List ℕ). drop 2 zs) (moved _ _ _ _ xs ys (mark-text set b mb) (mark-text set c mc) same))
kinds-one set b c xs ys tb tc (inl mb) (inr (inl sc)) same =
    let s = moved _ _ _ _ xs ys (mark-text set b mb) sc.text same in
    absurd (omega (arith, at 0 _ _ s))
kinds-one set b c xs ys tb tc (inl mb) (inr (inr hc)) same =
    let s = moved _ _ _ _ xs ys (mark-text set b mb) hc.text same in
    absurd (mark-shown set c hc.c tc hc.other hc.is (first-is hc.c 34 (34 ∷ xs) ys (omega arith) s))
kinds-one set b c xs ys tb tc (inr (inl sb)) (inl mc) same =
    let s = moved _ _ _ _ xs ys sb.text (mark-text set c mc) same in
    absurd (omega (arith, at 0 _ _ s))
kinds-one set b c xs ys tb tc (inr (inl sb)) (inr (inl sc)) same =
    both-slashed b c xs ys (moved _ _ _ _ xs ys sb.text sc.text same)
kinds-one set b c xs ys tb tc (inr (inl sb)) (inr (inr hc)) same =
    let s = moved _ _ _ _ xs ys sb.text hc.text same in
    absurd (slash-shown set c hc.c tc hc.is
    (first-is hc.c 92 (hex_digit (b / 16) ∷ hex_digit (b % 16) ∷ xs) ys (omega arith) s))
kinds-one set b c xs ys tb tc (inr (inr hb)) (inl mc) same =
    let s = moved _ _ _ _ xs ys hb.text (mark-text set c mc) same in
    absurd (mark-shown set b hb.c tb hb.other hb.is (first-is hb.c 34 (34 ∷ ys) xs (omega arith) (sym s)))
kinds-one set b c xs ys tb tc (inr (inr hb)) (inr (inl sc)) same =
    let s = moved _ _ _ _ xs ys hb.text sc.text same in
    absurd (slash-shown set b hb.c tb hb.is
    (first-is hb.c 92 (hex_digit (c / 16) ∷ hex_digit (c % 16) ∷ ys) xs (omega arith) (sym s)))
kinds-one set b c xs ys tb tc (inr (inr hb)) (inr (inr hc)) same =
    both-shown set b c hb.c hc.c xs ys tb tc hb.is hc.is (moved _ _ _ _ xs ys hb.text hc.text same)

-- two texts that begin with the texts of bytes of a keyboard and are one
typed-one : (set : CharacterSet) (b c : ℕ) (xs ys : List ℕ) → is_typed b ≡ true → is_typed c ≡ true
    → quoted_byte set b ++ xs ≡ quoted_byte set c ++ ys → Same b c xs ys
typed-one set b c xs ys tb tc same = kinds-one set b c xs ys tb tc (kind-of set b) (kind-of set c) same

long-kind : (set : CharacterSet) (b : ℕ) → Kind set b → 1 ≤ length (quoted_byte set b)
long-kind set b (inl mark) = omega (arith, ap length (mark-text set b mark))
long-kind set b (inr (inl slashed)) = omega (arith, ap length slashed.text)
long-kind set b (inr (inr it)) = omega (arith, ap length it.text, length-encode it.c, (len_utf8_bounds it.c).0)

never-empty : (set : CharacterSet) (b : ℕ) (xs : List ℕ) → quoted_byte set b ++ xs ≡ [] → ⊥
never-empty set b xs same =
    let none : length (quoted_byte set b ++ xs) ≡ 0 = ap length same in
    omega (arith, long-kind set b (kind-of set b), none, length-append (quoted_byte set b) xs)

-- a keyboard gives all of these bytes
abbrev pub AreTyped : List ℕ → Type 0
AreTyped bytes = AllByRecursion (λ b. is_typed b ≡ true) bytes

-- what stands behind the text of the first bytes is the text of the others
record IsBehind (set : CharacterSet) (pre bytes rest : List ℕ) : Type 0 where
  pub behind : List ℕ
  pub split : bytes ≡ pre ++ behind
  pub text : rest ≡ one_line set behind
  pub typed : AreTyped behind

behind-of : (set : CharacterSet) (pre bytes rest : List ℕ) → AreTyped pre → AreTyped bytes
    → one_line set pre ++ rest ≡ one_line set bytes → IsBehind set pre bytes rest
behind-of set [] bytes rest tp tb same = record { behind = bytes; split = refl; text = same; typed = tb }
behind-of set (b ∷ pre) [] rest tp tb same =
    absurd (never-empty set b (one_line set pre ++ rest) (sym (append_assoc (quoted_byte set b) (one_line set pre) rest) ∙ same))
behind-of set (b ∷ pre) (c ∷ bytes) rest tp tb same =
    let one = typed-one set b c (one_line set pre ++ rest) (one_line set bytes) tp.0 tb.0
    (sym (append_assoc (quoted_byte set b) (one_line set pre) rest) ∙ same) in
    let x = behind-of set pre bytes rest tp.1 tb.1 one.1 in
    record {
      behind = x.behind;
      split = ap₂ (λ (n : ℕ) (ns : List ℕ). n ∷ ns) (sym one.0) x.split;
      text = x.text;
      typed = x.typed;
    }

abbrev NoneLeads : CharacterSet → List ℕ → Type 0
NoneLeads set rest = (b : ℕ) (xs : List ℕ) → is_typed b ≡ true → rest ≢ quoted_byte set b ++ xs

none-leads : (set : CharacterSet) (rest behind : List ℕ) → 1 ≤ length rest → NoneLeads set rest → AreTyped behind
    → rest ≡ one_line set behind → ⊥
none-leads set rest [] some none typed text = omega (arith, some, ap length text)
none-leads set rest (b ∷ bs) some none typed text = none b (one_line set bs) typed.0 text

-- a text that no byte leads is of no bytes
pub none-here : (set : CharacterSet) (text rest pre : List ℕ) → AreTyped pre → text ≡ one_line set pre ++ rest → 1 ≤ length rest
    → NoneLeads set rest → (bytes : List ℕ) → IsTyped set text bytes → ⊥
none-here set text rest pre tp is some none bytes typed =
    let x = behind-of set pre bytes rest tp typed.1 (sym is ∙ typed.0) in
    none-leads set rest x.behind some none x.typed x.text

no-room : (set : CharacterSet) (rest pre bytes behind : List ℕ) → 1 ≤ length rest → 254 ≤ length pre → length bytes ≤ 254
    → bytes ≡ pre ++ behind → rest ≡ one_line set behind → ⊥
no-room set rest pre bytes [] some full few split text = omega (arith, some, ap length text)
no-room set rest pre bytes (b ∷ bs) some full few split text =
    omega (arith, full, few, ap length split, length-append pre (b ∷ bs))

-- a text of more bytes than there is room for is of no fewer
pub none-more : (set : CharacterSet) (text rest pre : List ℕ) → AreTyped pre → text ≡ one_line set pre ++ rest → 1 ≤ length rest
    → 254 ≤ length pre → (bytes : List ℕ) → length bytes ≤ 254 → IsTyped set text bytes → ⊥
none-more set text rest pre tp is some full bytes few typed =
    let x = behind-of set pre bytes rest tp typed.1 (sym is ∙ typed.0) in
    no-room set rest pre bytes x.behind some full few x.split x.text

-- what stands behind a byte's text is shorter
pub shorter : (set : CharacterSet) (b : ℕ) (rest behind : List ℕ) → rest ≡ quoted_byte set b ++ behind → length behind < length rest
shorter set b rest behind is =
    omega (arith, ap length is, length-append (quoted_byte set b) behind, long-kind set b (kind-of set b))

-- a text of bytes, around one of them
pub around : (set : CharacterSet) (xs : List ℕ) (i : ℕ) → i < length xs
    → one_line set xs ≡ one_line set (take i xs) ++ (quoted_byte set (get_or xs i 0) ++ one_line set (drop (i + 1) xs))
around set xs i low =
    sym (ap (one_line set) (take-append-drop i xs))
    ∙ flat_map-append (quoted_byte set) (take i xs) (drop i xs)
    ∙ ap (λ (zs : List ℕ). one_line set (take i xs) ++ one_line set zs) (drop_more xs i 0 low)

-- the text isn't that of the bytes, since the byte at i isn't at the front of what stands behind those before it
pub other-text-at : (set : CharacterSet) (text xs rest : List ℕ) (i : ℕ) → i < length xs
    → text ≡ one_line set (take i xs) ++ rest → ((more : List ℕ) → rest ≢ quoted_byte set (get_or xs i 0) ++ more)
    → text ≢ one_line set xs
other-text-at set text xs rest i low is none same =
    none (one_line set (drop (i + 1) xs))
    (append_cancel_left (one_line set (take i xs)) rest (quoted_byte set (get_or xs i 0) ++ one_line set (drop (i + 1) xs))
    (sym is ∙ same ∙ around set xs i low))

-- one byte more was at the front
pub one-more : (set : CharacterSet) (text xs rest behind : List ℕ) (i : ℕ) → i < length xs
    → text ≡ one_line set (take i xs) ++ rest → rest ≡ quoted_byte set (get_or xs i 0) ++ behind
    → text ≡ one_line set (take (i + 1) xs) ++ behind
one-more set text xs rest behind i low is here =
    is ∙ ap (λ (zs : List ℕ). one_line set (take i xs) ++ zs) here
    ∙ sym (append_assoc (one_line set (take i xs)) (quoted_byte set (get_or xs i 0)) behind)
    ∙ ap (λ (zs : List ℕ). zs ++ behind) (one_line-next set xs i low)

-- all bytes were
pub all-of : (set : CharacterSet) (text xs rest : List ℕ) (i : ℕ) → length xs ≤ i → text ≡ one_line set (take i xs) ++ rest
    → text ≡ one_line set xs ++ rest
all-of set text xs rest i high is = is ∙ ap (λ (zs : List ℕ). one_line set zs ++ rest) (take_all i xs high)

pub nothing-left : (set : CharacterSet) (text xs rest : List ℕ) → text ≡ one_line set xs ++ rest → length rest ≡ 0
    → text ≡ one_line set xs
nothing-left set text xs [] is none = is ∙ append-nil (one_line set xs)
nothing-left set text xs (b ∷ rest) is none = absurd (omega (arith, none))

pub nothing-more : (set : CharacterSet) (text xs rest : List ℕ) → text ≡ one_line set xs ++ rest → text ≡ one_line set xs
    → length rest ≡ 0
nothing-more set text xs rest is same =
    omega (arith, ap length (sym is ∙ same), length-append (one_line set xs) rest)
