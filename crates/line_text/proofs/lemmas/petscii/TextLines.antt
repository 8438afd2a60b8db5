-- A line of a record that is typed is cut at its first comma, and its text may be between quotation marks.
use Rattle.std.proofs.Common.{◌≡◌, ◌≤◌, ◌⊎◌, inl, inr, ⊎_elim, ℕ, List, [], ◌∷◌, ◌++◌, Option, Some, None, Bool, true, false}
use Rattle.std.proofs.Common.{drop, length, refl, subst, sym, ap, ◌∙◌, arith}
use Rattle.std.specs.Prelude.{decimal}
use Rattle.std.proofs.lemmas.Bool.{false≢true}
use Rattle.std.proofs.lemmas.List.{append_cancel_right}
use Rattle.line_text.specs.bytes.Lines.{IsQuoted}
use Rattle.line_text.specs.petscii.Typing.{IsBare, IsTextLine, has_mark}
use Rattle.line_text.proofs.lemmas.digits.Fields.{before_read, before_spells}
use Rattle.line_text.specs.Numbers.{number_before}

-- what comes after the number of such a line
record IsBehind (line : List ℕ) (n : ℕ) (text : List ℕ) : Type 0 where
  pub rest : List ℕ
  pub read : number_before 1 182880 line ≡ Some (n, rest)
  pub is : IsQuoted rest text ⊎ ((rest ≡ text) × IsBare text)

behind-number : (line : List ℕ) (n : ℕ) (text : List ℕ) → 1 ≤ n → n ≤ 182880 → IsTextLine line n text → IsBehind line n text
behind-number line n text low high (inl quoted) = record {
  rest = 34 ∷ (text ++ 34 ∷ []);
  read = before_read 1 182880 n line (34 ∷ (text ++ 34 ∷ [])) low high
      (record { short = omega (arith, high); text = quoted; ends = λ digit. omega (arith, digit.0) });
  is = inl refl;
}
behind-number line n text low high (inr bare) = record {
  rest = text;
  read = before_read 1 182880 n line text low high
      (record { short = omega (arith, high); text = bare.0; ends = λ digit. omega (arith, digit.0) });
  is = inr (refl, bare.1);
}

some-none : (o : Option (ℕ × List ℕ)) (p : ℕ × List ℕ) → o ≡ Some p → None ≡ o → ⊥
some-none o p some none = cc

some-one : (o : Option (ℕ × List ℕ)) (p q : ℕ × List ℕ) → o ≡ Some p → Some q ≡ o → q ≡ p
some-one o p q some other = cc

pub number-refused : (line : List ℕ) → None ≡ number_before 1 182880 line → (n : ℕ) (text : List ℕ) → 1 ≤ n → n ≤ 182880
    → IsTextLine line n text → ⊥
number-refused line none n text low high is =
    let x = behind-number line n text low high is in
    some-none _ (n, x.rest) x.read none

no-text : (rest text : List ℕ) → ((inner : List ℕ) → ¬ (IsQuoted rest inner)) × ¬ (IsBare rest)
    → IsQuoted rest text ⊎ ((rest ≡ text) × IsBare text) → ⊥
no-text rest text none (inl quoted) = none.0 text quoted
no-text rest text none (inr bare) = none.1 (subst IsBare (sym bare.0) bare.1)

pub text-refused : (line : List ℕ) (number : ℕ) (rest : List ℕ) → Some (number, rest) ≡ number_before 1 182880 line
    → ((inner : List ℕ) → ¬ (IsQuoted rest inner)) × ¬ (IsBare rest)
    → (n : ℕ) (text : List ℕ) → 1 ≤ n → n ≤ 182880 → IsTextLine line n text → ⊥
text-refused line number rest read none n text low high is =
    let x = behind-number line n text low high is in
    let same : rest ≡ x.rest = ap (λ (p : ℕ × List ℕ). p.1) (some-one _ (n, x.rest) (number, rest) x.read read) in
    no-text rest text none (subst (λ (r : List ℕ). IsQuoted r text ⊎ ((r ≡ text) × IsBare text)) (sym same) x.is)

of-text : (line : List ℕ) (n : ℕ) (rest text : List ℕ) → line ≡ decimal n ++ (44 ∷ rest)
    → IsQuoted rest text ⊎ ((text ≡ rest) × IsBare rest) → IsTextLine line n text
of-text line n rest text is (inl quoted) = inl (is ∙ ap (λ (zs : List ℕ). decimal n ++ (44 ∷ zs)) quoted)
of-text line n rest text is (inr bare) =
    inr (is ∙ ap (λ (zs : List ℕ). decimal n ++ (44 ∷ zs)) (sym bare.0), subst IsBare (sym bare.0) bare.1)

pub line-found : (line : List ℕ) (n : ℕ) (rest text : List ℕ) → Some (n, rest) ≡ number_before 1 182880 line
    → IsQuoted rest text ⊎ ((text ≡ rest) × IsBare rest)
    → (1 ≤ n) × (n ≤ 182880) × IsTextLine line n text
line-found line n rest text read found =
    let s = before_spells 1 182880 line (n, rest) (sym read) in
    (s.0, s.1.0, of-text line n rest text s.1.1 found)

marked : (text : List ℕ) → has_mark (34 ∷ text) ≡ true
marked text = refl

not-bare : (rest text other : List ℕ) → IsQuoted rest text → rest ≡ other → IsBare other → ⊥
not-bare rest text other quoted same bare =
    false≢true (sym bare.1 ∙ ap has_mark (sym same ∙ quoted) ∙ marked (text ++ 34 ∷ []))

texts-one : (rest s t : List ℕ) → IsQuoted rest s ⊎ ((rest ≡ s) × IsBare s) → IsQuoted rest t ⊎ ((rest ≡ t) × IsBare t) → s ≡ t
texts-one rest s t (inl a) (inl b) =
    append_cancel_right s t (34 ∷ []) (ap (λ (zs : List ℕ). drop 1 zs) (sym a ∙ b))
texts-one rest s t (inl a) (inr b) = absurd (not-bare rest s t a b.0 b.1)
texts-one rest s t (inr a) (inl b) = absurd (not-bare rest t s b a.0 a.1)
texts-one rest s t (inr a) (inr b) = sym a.0 ∙ b.0

pair-same : (o : Option (ℕ × List ℕ)) (p q : ℕ × List ℕ) → o ≡ Some p → o ≡ Some q → p ≡ q
pair-same o p q a b = cc

-- a line has one number and one text
pub text-line-one : (line : List ℕ) (m n : ℕ) (s t : List ℕ) → 1 ≤ m → m ≤ 182880 → 1 ≤ n → n ≤ 182880
    → IsTextLine line m s → IsTextLine line n t → (m ≡ n) × (s ≡ t)
text-line-one line m n s t lm hm ln hn a b =
    let x = behind-number line m s lm hm a in
    let y = behind-number line n t ln hn b in
    let same = pair-same (number_before 1 182880 line) (m, x.rest) (n, y.rest) x.read y.read in
    let rest : x.rest ≡ y.rest = ap (λ (p : ℕ × List ℕ). p.1) same in (
      ap (λ (p : ℕ × List ℕ). p.0) same,
      texts-one y.rest s t (subst (λ (r : List ℕ). IsQuoted r s ⊎ ((r ≡ s) × IsBare s)) rest x.is) y.is,
    )
