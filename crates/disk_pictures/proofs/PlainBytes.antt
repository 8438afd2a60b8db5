-- The text of a byte without an escape has no markup and no &, and at most three characters.
use Rattle.std.proofs.Common.{◌≡◌, ◌≢◌, ◌≤◌, ◌+◌, ◌*◌, ◌/◌, ◌%◌, ℕ, List, [], ◌∷◌, Bool, true, false}
use Rattle.std.proofs.Common.{length, ne_eqb, refl, sym, ap, ◌∙◌, arith}
use Rattle.std.specs.Prelude.{codes, flat_map, if◌then◌else◌, nat_eq, nat_lt, not, ◌&&◌}
use Rattle.std.proofs.lemmas.Bool.{false≢true, ltb-false, ltb-true}
use Rattle.std.proofs.lemmas.List.{length-append}
use Rattle.line_text.specs.bytes.Texts.{digit, is_plain}
use Rattle.disk_pictures.specs.Html.{html_byte, html_of, is_long, plain_byte}
use Rattle.disk_pictures.specs.Markup.{IsEscaped, markup_of}

-- no character that HTML is marked up or escaped by
pub record IsQuiet (c : ℕ) : Type 0 where
  pub quote : c ≢ 34
  pub less : c ≢ 60
  pub greater : c ≢ 62
  pub amp : c ≢ 38

pub quiet-none : (c : ℕ) (cs : List ℕ) → IsQuiet c → markup_of cs ≡ [] → markup_of (c ∷ cs) ≡ []
quiet-none c cs q e =
    let a = ne_eqb c 34 q.quote in
    let b = ne_eqb c 60 q.less in
    let d = ne_eqb c 62 q.greater in
    rw (a, b, d) e

pub quiet-escaped : (c : ℕ) (cs : List ℕ) → IsQuiet c → IsEscaped cs → IsEscaped (c ∷ cs)
quiet-escaped c cs q rest = (λ e. absurd (q.amp e), rest)

digit-quiet : (n : ℕ) → IsQuiet (digit n)
digit-quiet n = by (nat_lt n 10) refl
  where
    by : (t : Bool) → nat_lt n 10 ≡ t → IsQuiet (if t then 48 + n else 87 + n)
    by true e =
        let low = ltb-true n 10 e in
        record {
          quote = λ h. omega (arith, h, low);
          less = λ h. omega (arith, h, low);
          greater = λ h. omega (arith, h, low);
          amp = λ h. omega (arith, h, low);
        }
    by false e = record {
      quote = λ h. omega (arith, h);
      less = λ h. omega (arith, h);
      greater = λ h. omega (arith, h);
      amp = λ h. omega (arith, h);
    }

backslash-quiet : IsQuiet 92
backslash-quiet = record {
  quote = λ h. omega (arith, h);
  less = λ h. omega (arith, h);
  greater = λ h. omega (arith, h);
  amp = λ h. omega (arith, h);
}

other : (b c : ℕ) → nat_eq b c ≡ false → nat_eq c c ≡ true → b ≢ c
other b c e s h = false≢true (sym e ∙ ap (λ (n : ℕ). nat_eq n c) h ∙ s)

-- all of what is shown of a byte
record IsShown (text : List ℕ) : Type 0 where
  pub none : markup_of text ≡ []
  pub escaped : IsEscaped text
  pub short : length text ≤ 3

quiet-three : (a b c : ℕ) → IsQuiet a → IsQuiet b → IsQuiet c → IsShown (a ∷ b ∷ c ∷ [])
quiet-three a b c p q r = record {
  none = quiet-none a (b ∷ c ∷ []) p (quiet-none b (c ∷ []) q (quiet-none c [] r refl));
  escaped = quiet-escaped a (b ∷ c ∷ []) p (quiet-escaped b (c ∷ []) q (quiet-escaped c [] r tt));
  short = omega arith;
}

spelled : (n m : ℕ) → IsShown (92 ∷ digit n ∷ digit m ∷ [])
spelled n m = quiet-three 92 (digit n) (digit m) backslash-quiet (digit-quiet n) (digit-quiet m)

pub no-quote : (x y z w : Bool) → (x && (y && (not z && not w))) ≡ true → z ≡ false
no-quote true true false w e = refl
no-quote true true true w e = absurd (false≢true e)
no-quote true false z w e = absurd (false≢true e)
no-quote false y z w e = absurd (false≢true e)

shown : (b : ℕ) → IsShown (plain_byte b)
shown b = by (nat_eq b 38) (nat_eq b 60) (nat_eq b 62) (is_plain b) refl refl refl refl
  where
    by : (a l g p : Bool) → nat_eq b 38 ≡ a → nat_eq b 60 ≡ l → nat_eq b 62 ≡ g → is_plain b ≡ p
        → IsShown (if a then codes "\\26" else (if l then codes "\\3c" else (if g then codes "\\3e"
        else (if p then b ∷ [] else 92 ∷ digit (b / 16) ∷ digit (b % 16) ∷ []))))
    by true l g p ea el eg ep = spelled 2 6
    by false true g p ea el eg ep = spelled 3 12
    by false false true p ea el eg ep = spelled 3 14
    by false false false true ea el eg ep =
        let q : IsQuiet b = record {
          quote = other b 34 (no-quote _ _ (nat_eq b 34) (nat_eq b 92) ep) refl;
          less = other b 60 el refl;
          greater = other b 62 eg refl;
          amp = other b 38 ea refl;
        } in
        record { none = quiet-none b [] q refl; escaped = quiet-escaped b [] q tt; short = omega arith }
    by false false false false ea el eg ep = spelled (b / 16) (b % 16)

pub plain-none : (b : ℕ) → markup_of (plain_byte b) ≡ []
plain-none b = (shown b).none

pub plain-escaped : (b : ℕ) → IsEscaped (plain_byte b)
plain-escaped b = (shown b).escaped

plains-short : (bytes : List ℕ) → length (flat_map plain_byte bytes) ≤ 3 * length bytes
plains-short [] = omega arith
plains-short (b ∷ bs) = omega (
  arith,
  length-append (plain_byte b) (flat_map plain_byte bs),
  (shown b).short,
  plains-short bs,
)

pub html-short : (bytes : List ℕ) → length bytes ≤ 16 → length (html_of bytes) ≤ 48
unfolding html_of
html-short bytes few = by (is_long bytes) refl
  where
    by : (t : Bool) → is_long bytes ≡ t
        → length (if t then flat_map plain_byte bytes else flat_map html_byte bytes) ≤ 48
    by true e = omega (arith, plains-short bytes, few)
    by false e = ltb-false 48 (length (flat_map html_byte bytes)) e
