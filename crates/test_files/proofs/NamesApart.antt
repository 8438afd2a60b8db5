-- The path of a log isn't that of the snapshot's image.
use Rattle.std.proofs.Common.{◌≡◌, ◌∙◌, ◌++◌, ℕ, List, [], ◌∷◌, ap, arith, get_or, length, sym}
use Rattle.std.proofs.lemmas.List.{length-append}
use Rattle.std.specs.Prelude.{codes}

pub no-log : (path : List ℕ) → path ++ codes "-log" ≡ codes "a.d64" → ⊥
no-log [] is = omega (arith, ap length is)
no-log (a ∷ []) is = omega (arith, ap (λ (xs : List ℕ). get_or xs 1 0) is)
no-log (a ∷ b ∷ rest) is = omega (arith, sym (length-append (a ∷ b ∷ rest) (codes "-log")) ∙ ap length is)
