-- What is printed of a record is read and stored as that record.
use Rattle.std.proofs.Common.{◌≡◌, ◌≤◌, ◌-◌, ◌⊎◌, inl, ⊎_elim, ℕ, zero, suc, List, [], ◌∷◌, ◌++◌, Some, Option, length}
use Rattle.std.proofs.Common.{take, drop, replicate, refl, subst, sym, ap, ◌∙◌, arith}
use Rattle.std.specs.Prelude.{decimal}
use Rattle.std.proofs.lemmas.List.{append_assoc, append_cancel_right}
use Rattle.line_text.proofs.lemmas.bytes.Texts.{one-text}
use Rattle.line_text.specs.bytes.Texts.{kept_before, record_line, text_of, trimmed}
use Rattle.line_text.proofs.lemmas.bytes.Behind.{behind-number, no-mark}
use Rattle.line_text.specs.bytes.Lines.{IsLineOf, IsQuoted, padded}
use Rattle.line_text.specs.Numbers.{number_before}

pub line-of : (n : ℕ) (r line : List ℕ) → line ++ 10 ∷ [] ≡ record_line n r → IsLineOf line n (trimmed r)
unfolding record_line
line-of n r line is =
    let t = text_of (trimmed r) in
    let inner : t ++ (34 ∷ (10 ∷ [])) ≡ (t ++ 34 ∷ []) ++ 10 ∷ [] = sym (append_assoc t (34 ∷ []) (10 ∷ [])) in
    let moved : decimal n ++ (44 ∷ (34 ∷ (t ++ (34 ∷ (10 ∷ []))))) ≡ (decimal n ++ (44 ∷ (34 ∷ (t ++ 34 ∷ []))))
    ++ 10 ∷ [] =
    ap (λ (zs : List ℕ). decimal n ++ (44 ∷ (34 ∷ zs))) inner
    ∙ sym (append_assoc (decimal n) (44 ∷ (34 ∷ (t ++ 34 ∷ []))) (10 ∷ [])) in
    inl (append_cancel_right line (decimal n ++ (44 ∷ (34 ∷ (t ++ 34 ∷ [])))) (10 ∷ []) (is ∙ moved))

texts-one : (rest xs ys : List ℕ) → IsQuoted rest (text_of xs) ⊎ (rest ≡ text_of xs) → IsQuoted rest (text_of ys)
    ⊎ (rest ≡ text_of ys) → xs ≡ ys
texts-one rest xs ys a b = ⊎_elim
    (λ (qa : IsQuoted rest (text_of xs)). ⊎_elim
    (λ (qb : IsQuoted rest (text_of ys)). one-text xs ys (append_cancel_right (text_of xs) (text_of ys) (34 ∷ [])
    (ap (λ (zs : List ℕ). drop 1 zs) (sym qa ∙ qb))))
    (λ (bb : rest ≡ text_of ys). absurd (no-mark ys (text_of xs) (sym bb ∙ qa)))
    b)
    (λ (ba : rest ≡ text_of xs). ⊎_elim
    (λ (qb : IsQuoted rest (text_of ys)). absurd (no-mark xs (text_of ys) (sym ba ∙ qb)))
    (λ (bb : rest ≡ text_of ys). one-text xs ys (sym ba ∙ bb))
    b)
    a

pair-one : (o : Option (ℕ × List ℕ)) (p q : ℕ × List ℕ) → o ≡ Some p → o ≡ Some q → p ≡ q
pair-one o p q a b = cc

pub one-line : (line : List ℕ) (m n : ℕ) (xs ys : List ℕ) → 1 ≤ m → m ≤ 182880 → 1 ≤ n → n ≤ 182880
    → IsLineOf line m xs → IsLineOf line n ys → (m ≡ n) × (xs ≡ ys)
one-line line m n xs ys low high low' high' a b =
    let x = behind-number line m xs low high a in
    let y = behind-number line n ys low' high' b in
    let same = pair-one (number_before 1 182880 line) (m, x.rest) (n, y.rest) x.read y.read in
    let rest : y.rest ≡ x.rest = sym (ap (λ (p : ℕ × List ℕ). p.1) same) in (
      ap (λ (p : ℕ × List ℕ). p.0) same,
      texts-one x.rest xs ys x.text (subst (λ (zs : List ℕ). IsQuoted zs (text_of ys) ⊎ (zs ≡ text_of ys)) rest y.text),
    )

padded-kept : (b : ℕ) (bs kept : List ℕ) (m : ℕ) → suc (length bs) ≤ m
    → take (length bs) (kept ++ replicate m 0) ≡ bs → take (length bs) (kept ++ replicate (m - 1) 0) ≡ bs
    → take (suc (length bs)) (kept_before b kept ++ replicate m 0) ≡ b ∷ bs
padded-kept zero bs [] zero le here less = absurd (omega (arith, le))
padded-kept zero bs [] (suc m) le here less =
    let one : suc m - 1 ≡ m = omega arith in
    ap (λ (zs : List ℕ). 0 ∷ zs) (subst (λ (k : ℕ). take (length bs) (replicate k 0) ≡ bs) one less)
padded-kept (suc b) bs [] m le here less = ap (λ (zs : List ℕ). suc b ∷ zs) here
padded-kept zero bs (x ∷ xs) m le here less = ap (λ (zs : List ℕ). 0 ∷ zs) here
padded-kept (suc b) bs (x ∷ xs) m le here less = ap (λ (zs : List ℕ). suc b ∷ zs) here

-- the bytes up to the last one that isn't 0, and zeros up to any length
padded-back : (r : List ℕ) (m : ℕ) → length r ≤ m → take (length r) (trimmed r ++ replicate m 0) ≡ r
unfolding trimmed
padded-back [] m le = refl
padded-back (b ∷ bs) m le = padded-kept b bs (trimmed bs) m (omega (arith, le)) (padded-back bs m (omega (arith, le)))
    (padded-back bs (m - 1) (omega (arith, le)))

pub stored-back : (r : List ℕ) → padded (length r) (trimmed r) ≡ r
stored-back r = padded-back r (length r) (omega arith)
