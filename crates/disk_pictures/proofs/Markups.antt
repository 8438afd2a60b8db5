-- Bytes of a disk bring no markup into a page.
use Rattle.std.proofs.Common.{◌≡◌, inl, inr, ◌+◌, ◌/◌, ◌%◌, ℕ, List, [], ◌∷◌, ◌++◌, Bool, true, false, ne_eqb, refl}
use Rattle.std.proofs.Common.{sym, ap, ◌∙◌, arith}
use Rattle.std.specs.Prelude.{codes, flat_map, if◌then◌else◌, nat_eq, nat_lt}
use Rattle.std.proofs.lemmas.Bool.{false≢true}
use Rattle.std.proofs.lemmas.List.Elements.{filter-append}
use Rattle.line_text.specs.bytes.Texts.{byte_text, digit, is_plain}
use Rattle.disk_pictures.proofs.PlainBytes.{no-quote, plain-escaped, plain-none}
use Rattle.disk_pictures.specs.Html.{escaped, html_byte, html_of, is_long, plain_byte}
use Rattle.disk_pictures.specs.Markup.{BeginsEscape, IsEscaped, is_markup, markup_of}

pub both-none : (xs ys : List ℕ) → markup_of xs ≡ [] → markup_of ys ≡ [] → markup_of (xs ++ ys) ≡ []
both-none xs ys a b = filter-append is_markup xs ys ∙ rw (a, b) refl

-- a character that isn't the quotation mark, escaped
escape-none : (a l g : Bool) (c : ℕ) → nat_eq c 60 ≡ l → nat_eq c 62 ≡ g → nat_eq c 34 ≡ false
    → markup_of (if a then codes "&amp;" else (if l then codes "&lt;" else (if g then codes "&gt;" else (c ∷ [])))) ≡ []
escape-none true l g c less greater quote = refl
escape-none false true g c less greater quote = refl
escape-none false false true c less greater quote = refl
escape-none false false false c less greater quote = rw (quote, less, greater) refl

escaped-none : (c : ℕ) → nat_eq c 34 ≡ false → markup_of (escaped c) ≡ []
escaped-none c quote = escape-none (nat_eq c 38) (nat_eq c 60) (nat_eq c 62) c refl refl quote

digit-quote : (t : Bool) (n : ℕ) → nat_eq (if t then 48 + n else 87 + n) 34 ≡ false
digit-quote true n = ne_eqb (48 + n) 34 (λ e. omega (arith, e))
digit-quote false n = ne_eqb (87 + n) 34 (λ e. omega (arith, e))

pub byte-none : (p : Bool) (b : ℕ) → is_plain b ≡ p
    → markup_of (flat_map escaped (if p then b ∷ [] else 92 ∷ digit (b / 16) ∷ digit (b % 16) ∷ [])) ≡ []
byte-none true b plain =
    both-none (escaped b) [] (escaped-none b (no-quote _ _ (nat_eq b 34) (nat_eq b 92) plain)) refl
byte-none false b plain =
    let high = escaped-none (digit (b / 16)) (digit-quote (nat_lt (b / 16) 10) (b / 16)) in
    let low = escaped-none (digit (b % 16)) (digit-quote (nat_lt (b % 16) 10) (b % 16)) in
    both-none (escaped 92) (escaped (digit (b / 16)) ++ (escaped (digit (b % 16)) ++ [])) refl
    (both-none (escaped (digit (b / 16))) (escaped (digit (b % 16)) ++ []) high
    (both-none (escaped (digit (b % 16))) [] low refl))

escapes-none : (bytes : List ℕ) → markup_of (flat_map html_byte bytes) ≡ []
escapes-none [] = refl
escapes-none (b ∷ bs) =
    both-none (html_byte b) (flat_map html_byte bs) (byte-none (is_plain b) b refl) (escapes-none bs)

-- without escapes
plains-none : (bytes : List ℕ) → markup_of (flat_map plain_byte bytes) ≡ []
plains-none [] = refl
plains-none (b ∷ bs) = both-none (plain_byte b) (flat_map plain_byte bs) (plain-none b) (plains-none bs)

pub html-none : (bytes : List ℕ) → markup_of (html_of bytes) ≡ []
unfolding html_of
html-none bytes = either (is_long bytes)
  where
    either : (t : Bool) → markup_of (if t then flat_map plain_byte bytes else flat_map html_byte bytes) ≡ []
    either true = plains-none bytes
    either false = escapes-none bytes

begins-more : (xs ys : List ℕ) → BeginsEscape xs → BeginsEscape (xs ++ ys)
begins-more xs ys (rest, e) = (
  rest ++ ys,
  elim e [
    | inl a ↦ inl (ap (λ (t : List ℕ). t ++ ys) a)
    | inr (inl a) ↦ inr (inl (ap (λ (t : List ℕ). t ++ ys) a))
    | inr (inr a) ↦ inr (inr (ap (λ (t : List ℕ). t ++ ys) a))
  ],
)

pub both-escaped : (xs ys : List ℕ) → IsEscaped xs → IsEscaped ys → IsEscaped (xs ++ ys)
both-escaped [] ys a b = b
both-escaped (c ∷ cs) ys a b = (λ e. begins-more cs ys (a.0 e), both-escaped cs ys a.1 b)

no : (c : ℕ) (cs : List ℕ) → nat_eq c 38 ≡ false → c ≡ 38 → BeginsEscape cs
no c cs other e = absurd (false≢true (sym other ∙ ap (λ (n : ℕ). nat_eq n 38) e))

escape-escaped : (a l g : Bool) (c : ℕ) → nat_eq c 38 ≡ a
    → IsEscaped (if a then codes "&amp;" else (if l then codes "&lt;" else (if g then codes "&gt;" else (c ∷ []))))
escape-escaped true l g c amp =
    ((λ e. ([], inl refl)), (no 97 _ refl, (no 109 _ refl, (no 112 _ refl, (no 59 _ refl, tt)))))
escape-escaped false true g c amp = ((λ e. ([], inr (inl refl))), (no 108 _ refl, (no 116 _ refl, (no 59 _ refl, tt))))
escape-escaped false false true c amp =
    ((λ e. ([], inr (inr refl))), (no 103 _ refl, (no 116 _ refl, (no 59 _ refl, tt))))
escape-escaped false false false c amp = (no c [] amp, tt)

pub texts-escaped : (cs : List ℕ) → IsEscaped (flat_map escaped cs)
texts-escaped [] = tt
texts-escaped (c ∷ cs) = both-escaped (escaped c) (flat_map escaped cs)
    (escape-escaped (nat_eq c 38) (nat_eq c 60) (nat_eq c 62) c refl) (texts-escaped cs)

escapes-escaped : (bytes : List ℕ) → IsEscaped (flat_map html_byte bytes)
escapes-escaped [] = tt
escapes-escaped (b ∷ bs) =
    both-escaped (html_byte b) (flat_map html_byte bs) (texts-escaped (byte_text b)) (escapes-escaped bs)

plains-escaped : (bytes : List ℕ) → IsEscaped (flat_map plain_byte bytes)
plains-escaped [] = tt
plains-escaped (b ∷ bs) = both-escaped (plain_byte b) (flat_map plain_byte bs) (plain-escaped b) (plains-escaped bs)

pub html-escaped : (bytes : List ℕ) → IsEscaped (html_of bytes)
unfolding html_of
html-escaped bytes = either (is_long bytes)
  where
    either : (t : Bool) → IsEscaped (if t then flat_map plain_byte bytes else flat_map html_byte bytes)
    either true = plains-escaped bytes
    either false = escapes-escaped bytes
