-- Texts that are no name.
use Rattle.std.proofs.Common.{◌≡◌, ◌≤◌, ◌-◌, ◌<◌, ◌∙◌, ℕ, List, Some, ap, arith, length, subst, sym}
use Rattle.std.specs.Prelude.{slice_get}
use Rattle.line_text.proofs.lemmas.bytes.Texts.{one-text}
use Rattle.line_text.specs.bytes.Texts.{text_of}
use Rattle.file_changes.specs.Names.{IsNameOf}

-- a text has the bytes that were found alone, and these are too many
pub too-long : (text found bytes : List ℕ) → text ≡ text_of found → 16 < length found → IsNameOf text bytes → ⊥
too-long text found bytes is long name =
    let same : found ≡ bytes = one-text found bytes (sym is ∙ name.is) in
    let equal : length found ≡ length bytes = ap length same in
    let short : length bytes ≤ 16 = name.short in
    omega (arith, long, equal, short)

-- or end in a shifted space
pub ends-in-space : (text found bytes : List ℕ) → text ≡ text_of found → slice_get found (length found - 1) ≡ Some 160
    → IsNameOf text bytes → ⊥
ends-in-space text found bytes is ends name =
    let same : found ≡ bytes = one-text found bytes (sym is ∙ name.is) in
    name.ended (subst (λ xs. slice_get xs (length xs - 1) ≡ Some 160) same ends)
