-- A line of a record is cut at its first comma, and its text may be between quotation marks.
use Rattle.std.proofs.Common.{◌≡◌, ◌<◌, ◌≤◌, ◌/◌, ◌%◌, ◌⊎◌, inl, inr, ⊎_elim, ℕ, List, [], ◌∷◌, ◌++◌, Option, Some, None}
use Rattle.std.proofs.Common.{Bool, true, false, length, drop, get_or, refl, subst, sym, ap, ◌∙◌, arith}
use Rattle.std.specs.Prelude.{decimal, if◌then◌else◌}
use Rattle.std.proofs.lemmas.Bool.{false≢true}
use Rattle.std.proofs.lemmas.List.{append_cancel_right, length-append}
use Rattle.line_text.specs.bytes.Texts.{byte_text, digit, is_plain, text_of}
use Rattle.line_text.specs.bytes.Lines.{IsLineOf, IsQuoted, has_comma}
use Rattle.line_text.proofs.lemmas.digits.Fields.{before_read, before_spells}
use Rattle.line_text.specs.Numbers.{number_before}

-- what stands behind the number of a record's line
pub record IsBehindNumber (line : List ℕ) (n : ℕ) (bytes : List ℕ) : Type 0 where
  pub rest : List ℕ
  pub read : number_before 1 182880 line ≡ Some (n, rest)
  pub text : IsQuoted rest (text_of bytes) ⊎ (rest ≡ text_of bytes)
  pub column : IsQuoted rest (text_of bytes) ⊎ (has_comma rest ≡ false)

pub behind-number : (line : List ℕ) (n : ℕ) (bytes : List ℕ) → 1 ≤ n → n ≤ 182880 → IsLineOf line n bytes
    → IsBehindNumber line n bytes
behind-number line n bytes low high is = ⊎_elim
    (λ quoted. record {
      rest = 34 ∷ (text_of bytes ++ 34 ∷ []);
      read = before_read 1 182880 n line (34 ∷ (text_of bytes ++ 34 ∷ [])) low high
          (record { short = omega (arith, high); text = quoted; ends = λ digit. omega (arith, digit.0) });
      text = inl refl;
      column = inl refl;
    })
    (λ bare. record {
      rest = text_of bytes;
      read = before_read 1 182880 n line (text_of bytes) low high
          (record { short = omega (arith, high); text = bare.0; ends = λ digit. omega (arith, digit.0) });
      text = inr refl;
      column = inr bare.1;
    })
    is

-- no text begins with a quotation mark
abbrev chosen : Bool → ℕ → List ℕ
chosen plain b = if plain then b ∷ [] else 92 ∷ digit (b / 16) ∷ digit (b % 16) ∷ []

mark-is-none : is_plain 34 ≡ true → ⊥
mark-is-none e = cc

first-chosen : (p : Bool) (b : ℕ) (xs : List ℕ) → is_plain b ≡ p → get_or (chosen p b ++ xs) 0 0 ≡ 34 → ⊥
first-chosen true b xs plain here = mark-is-none (subst (λ (n : ℕ). is_plain n ≡ true) here plain)
first-chosen false b xs plain here = omega (arith, here)

first-of : (b : ℕ) (xs : List ℕ) → get_or (byte_text b ++ xs) 0 0 ≡ 34 → ⊥
first-of b xs here = first-chosen (is_plain b) b xs refl here

head-same : (xs ys : List ℕ) → xs ≡ ys → get_or xs 0 0 ≡ get_or ys 0 0
head-same xs ys same = ap (λ (zs : List ℕ). get_or zs 0 0) same

pub no-mark : (bytes inner : List ℕ) → IsQuoted (text_of bytes) inner → ⊥
no-mark [] inner quoted = omega (arith, ap length quoted)
no-mark (b ∷ bytes) inner quoted =
    first-of b (text_of bytes) (head-same (byte_text b ++ text_of bytes) (34 ∷ (inner ++ 34 ∷ [])) quoted)

-- what is read of a text without its quotation marks
pub text-inside : (rest result bytes : List ℕ) → IsQuoted rest result
    ⊎ ((result ≡ rest) × ((inner : List ℕ) → ¬ (IsQuoted rest inner)))
    → IsQuoted rest (text_of bytes) ⊎ (rest ≡ text_of bytes) → result ≡ text_of bytes
text-inside rest result bytes found is = ⊎_elim
    (λ quoted. ⊎_elim
    (λ (marks : IsQuoted rest result). append_cancel_right result (text_of bytes) (34 ∷ [])
    (ap (λ (zs : List ℕ). drop 1 zs) (sym marks ∙ quoted)))
    (λ same. absurd (same.1 (text_of bytes) quoted))
    found)
    (λ bare. ⊎_elim
    (λ (marks : IsQuoted rest result). absurd (no-mark bytes result (sym bare ∙ marks)))
    (λ same. same.0 ∙ bare)
    found)
    is

-- a text without marks that is one column has no comma
no-comma : (rest result : List ℕ) → result ≡ rest → (length result < length rest) ⊎ (has_comma rest ≡ false)
    → has_comma rest ≡ false
no-comma rest result same (inl shorter) = absurd (omega (arith, ap length same, shorter))
no-comma rest result same (inr none) = none

pub line-found : (line : List ℕ) (n : ℕ) (rest result bytes : List ℕ) → Some (n, rest) ≡ number_before 1 182880 line
    → IsQuoted rest result ⊎ ((result ≡ rest) × ((inner : List ℕ) → ¬ (IsQuoted rest inner)))
    → (length result < length rest) ⊎ (has_comma rest ≡ false) → result ≡ text_of bytes
    → (1 ≤ n) × (n ≤ 182880) × IsLineOf line n bytes
line-found line n rest result bytes read found column text =
    let s = before_spells 1 182880 line (n, rest) (sym read) in (
      s.0,
      s.1.0,
      ⊎_elim
          (λ (marks : IsQuoted rest result). inl (s.1.1 ∙ ap (λ (zs : List ℕ). decimal n ++ (44 ∷ zs)) (marks
          ∙ ap (λ (zs : List ℕ). 34 ∷ (zs ++ 34 ∷ [])) text)))
          (λ same. inr (
            s.1.1 ∙ ap (λ (zs : List ℕ). decimal n ++ (44 ∷ zs)) (sym same.0 ∙ text),
            ap has_comma (sym text ∙ same.0) ∙ no-comma rest result same.0 column,
          ))
          found,
    )

some-none : (o : Option (ℕ × List ℕ)) (p : ℕ × List ℕ) → o ≡ Some p → None ≡ o → ⊥
some-none o p some none = cc

some-one : (o : Option (ℕ × List ℕ)) (p q : ℕ × List ℕ) → o ≡ Some p → Some q ≡ o → q ≡ p
some-one o p q some other = cc

pub line-refused : (line : List ℕ) → None ≡ number_before 1 182880 line → (n : ℕ) (bytes : List ℕ) → 1 ≤ n → n ≤ 182880
    → IsLineOf line n bytes → ⊥
line-refused line none n bytes low high is =
    let x = behind-number line n bytes low high is in
    some-none _ (n, x.rest) x.read none

pub text-refused : (line : List ℕ) (number : ℕ) (text result : List ℕ)
    → Some (number, text) ≡ number_before 1 182880 line
    → IsQuoted text result ⊎ ((result ≡ text) × ((inner : List ℕ) → ¬ (IsQuoted text inner)))
    → (n : ℕ) (bytes : List ℕ) → 1 ≤ n → n ≤ 182880 → IsLineOf line n bytes → result ≡ text_of bytes
text-refused line number text result read found n bytes low high is =
    let x = behind-number line n bytes low high is in
    let same = some-one _ (n, x.rest) (number, text) x.read read in
    let rest : text ≡ x.rest = ap (λ (p : ℕ × List ℕ). p.1) same in
    text-inside text result bytes found
    (⊎_elim (λ quoted. inl (rest ∙ quoted)) (λ bare. inr (rest ∙ bare)) x.text)

-- a text without marks that has a comma is of no record
no-column : (rest result text : List ℕ) → length rest ≤ length result → has_comma rest ≡ true
    → IsQuoted rest result ⊎ ((result ≡ rest) × ((inner : List ℕ) → ¬ (IsQuoted rest inner)))
    → IsQuoted rest text ⊎ (has_comma rest ≡ false) → ⊥
no-column rest result text long comma found (inr none) = false≢true (sym none ∙ comma)
no-column rest result text long comma (inl marks) (inl quoted) =
    omega (arith, long, ap length marks, length-append result (34 ∷ []))
no-column rest result text long comma (inr same) (inl quoted) = same.1 text quoted

pub columns-refused : (line : List ℕ) (number : ℕ) (text result : List ℕ)
    → Some (number, text) ≡ number_before 1 182880 line
    → IsQuoted text result ⊎ ((result ≡ text) × ((inner : List ℕ) → ¬ (IsQuoted text inner)))
    → length text ≤ length result → has_comma text ≡ true
    → (n : ℕ) (bytes : List ℕ) → 1 ≤ n → n ≤ 182880 → IsLineOf line n bytes → ⊥
columns-refused line number text result read found long comma n bytes low high is =
    let x = behind-number line n bytes low high is in
    let same = some-one _ (n, x.rest) (number, text) x.read read in
    let rest : x.rest ≡ text = sym (ap (λ (p : ℕ × List ℕ). p.1) same) in
    no-column text result (text_of bytes) long comma found
    (subst (λ (t : List ℕ). IsQuoted t (text_of bytes) ⊎ (has_comma t ≡ false)) rest x.column)
