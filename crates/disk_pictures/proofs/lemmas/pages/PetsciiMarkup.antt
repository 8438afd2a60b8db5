-- Names as a C64 shows them bring no markup into a page either.
use Rattle.std.proofs.Common.{◌≡◌, ◌<◌, ◌%◌, ℕ, List, [], ◌∷◌, Bool, true, false, length, eq-eqb, refl, sym, ◌∙◌}
use Rattle.std.proofs.Common.{ap, arith, get_or}
use Rattle.std.specs.List.{list_all}
use Rattle.std.specs.Prelude.{◌&&◌, Some, None, flat_map, if◌then◌else◌, nat_eq, nat_lt, not, slice_index}
use Rattle.std.proofs.Math.Utf8.{encode}
use Rattle.std.proofs.lemmas.Bool.{and_parts, false≢true}
use Rattle.std.proofs.lemmas.List.Folds.{list_all_at}
use Rattle.line_text.specs.bytes.Texts.{byte_text, is_plain}
use Rattle.line_text.specs.petscii.Characters.{character_of, graphics_blocks, graphics_letters, graphics_shifted}
use Rattle.line_text.specs.declared.petscii.characters.CharacterSet.TheVariants.{Graphics}
use Rattle.disk_pictures.proofs.Markups.{both-escaped, both-none, byte-none, texts-escaped}
use Rattle.disk_pictures.proofs.PlainBytes.{IsQuiet, quiet-escaped, quiet-none}
use Rattle.disk_pictures.specs.Html.{html_byte}
use Rattle.disk_pictures.specs.Markup.{IsEscaped, markup_of}
use Rattle.disk_pictures.specs.Petscii.{petscii_byte, petscii_of, sign_text, signed}

-- no markup, and each & begins an escape
abbrev IsText : List ℕ → Type 0
IsText text = (markup_of text ≡ []) × IsEscaped text

-- no character that HTML is marked up or escaped by
abbrev is_quiet : ℕ → Bool
is_quiet c = not (nat_eq c 34) && (not (nat_eq c 60) && (not (nat_eq c 62) && not (nat_eq c 38)))

abbrev are_quiet : List ℕ → Bool
are_quiet text = list_all is_quiet text

other : (c n : ℕ) → not (nat_eq c n) ≡ true → c ≡ n → ⊥
other c n is e = false≢true (ap not (sym (eq-eqb c n e)) ∙ is)

quiet : (c : ℕ) → is_quiet c ≡ true → IsQuiet c
quiet c is =
    let a = and_parts (not (nat_eq c 34)) _ is in
    let b = and_parts (not (nat_eq c 60)) _ a.1 in
    let d = and_parts (not (nat_eq c 62)) _ b.1 in
    record { quote = other c 34 a.0; less = other c 60 b.0; greater = other c 62 d.0; amp = other c 38 d.1 }

quiet-text : (text : List ℕ) → are_quiet text ≡ true → IsText text
quiet-text [] is = (refl, tt)
quiet-text (c ∷ cs) is =
    let parts = and_parts (is_quiet c) (are_quiet cs) is in
    let rest = quiet-text cs parts.1 in
    (quiet-none c cs (quiet c parts.0) rest.0, quiet-escaped c cs (quiet c parts.0) rest.1)

-- the characters of the table
letters-quiet : list_all (λ c. are_quiet (encode c)) graphics_letters ≡ true
unfolding encode
letters-quiet = refl

shifted-quiet : list_all (λ c. are_quiet (encode c)) graphics_shifted ≡ true
unfolding encode
shifted-quiet = refl

blocks-quiet : list_all (λ c. are_quiet (encode c)) graphics_blocks ≡ true
unfolding encode
blocks-quiet = refl

one-quiet : (xs : List ℕ) (i : ℕ) → i < length xs → list_all (λ c. are_quiet (encode c)) xs ≡ true
    → IsText (encode (get_or xs i 0))
one-quiet xs i low all = quiet-text (encode (get_or xs i 0)) (by (are_quiet (encode (get_or xs i 0))) refl)
  where
    by : (t : Bool) → are_quiet (encode (get_or xs i 0)) ≡ t → t ≡ true
    by true e = refl
    by false e = absurd (false≢true (sym (list_all_at (λ c. are_quiet (encode c)) xs i 0 low e) ∙ all))

typed-text : (b : ℕ) → IsText (html_byte b)
typed-text b = (byte-none (is_plain b) b refl, texts-escaped (byte_text b))

-- the sign of a byte from 64 on, by the tests that choose it
sign-by : (b : ℕ) (none letters shifted control blocks again last : Bool) → IsText (sign_text b
    (if none then None
    else (if false then Some b
    else (if letters then Some (slice_index graphics_letters (b % 32))
    else (if shifted then Some (slice_index graphics_shifted (b % 32))
    else (if control then None
    else (if blocks then Some (slice_index graphics_blocks (b % 32))
    else (if again then Some (slice_index graphics_shifted (b % 32))
    else (if last then Some (slice_index graphics_shifted 30)
    else Some (slice_index graphics_blocks (b % 32)))))))))))
sign-by b true letters shifted control blocks again last = typed-text b
sign-by b false true shifted control blocks again last = one-quiet graphics_letters (b % 32) (omega arith) letters-quiet
sign-by b false false true control blocks again last = one-quiet graphics_shifted (b % 32) (omega arith) shifted-quiet
sign-by b false false false true blocks again last = typed-text b
sign-by b false false false false true again last = one-quiet graphics_blocks (b % 32) (omega arith) blocks-quiet
sign-by b false false false false false true last = one-quiet graphics_shifted (b % 32) (omega arith) shifted-quiet
sign-by b false false false false false false true = one-quiet graphics_shifted 30 (omega arith) shifted-quiet
sign-by b false false false false false false false = one-quiet graphics_blocks (b % 32) (omega arith) blocks-quiet

byte-by : (b : ℕ) (t : Bool) → nat_lt b 64 ≡ t
    → IsText (if t then html_byte b else sign_text b (character_of Graphics b))
unfolding character_of
byte-by b true e = typed-text b
byte-by b false e = rw e (sign-by b (nat_lt b 32) (nat_lt b 96) (nat_lt b 128) (nat_lt b 160) (nat_lt b 192)
    (nat_lt b 224) (nat_eq b 255))

signs-text : (bytes : List ℕ) → IsText (flat_map petscii_byte bytes)
signs-text [] = (refl, tt)
signs-text (b ∷ bs) =
    let one = byte-by b (nat_lt b 64) refl in
    let rest = signs-text bs in (
      both-none (petscii_byte b) (flat_map petscii_byte bs) one.0 rest.0,
      both-escaped (petscii_byte b) (flat_map petscii_byte bs) one.1 rest.1,
    )

name-text : (bytes : List ℕ) → IsText (petscii_of bytes)
unfolding petscii_of
name-text bytes = signs-text (signed bytes)

pub petscii-none : (bytes : List ℕ) → markup_of (petscii_of bytes) ≡ []
petscii-none bytes = (name-text bytes).0

pub petscii-escaped : (bytes : List ℕ) → IsEscaped (petscii_of bytes)
petscii-escaped bytes = (name-text bytes).1
