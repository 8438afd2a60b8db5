-- Pieces of a record as columns, one after another.
use Rattle.std.proofs.Common.{◌≡◌, ◌<◌, ◌≤◌, ◌-◌, ℕ, List, [], ◌∷◌, ◌++◌, arith, drop, get_or, length, refl}
use Rattle.std.specs.Prelude.{slice_range}
use Rattle.line_text.specs.bytes.Texts.{trimmed}
use Rattle.line_text.specs.columns.Columns.{columns_of_fields, quoted}
use Rattle.line_text.specs.columns.Pieces.{piece_columns, pieces}

-- a piece that isn't the last, and the comma after it
pub piece-more : (ps r : List ℕ) → 2 ≤ length ps
    → piece_columns ps r ≡ quoted (trimmed (slice_range r (get_or ps 0 0 - 1) (get_or ps 1 0 - 1)))
    ++ 44 ∷ piece_columns (drop 1 ps) r
unfolding pieces columns_of_fields
piece-more [] r some = absurd (omega (arith, some))
piece-more (p ∷ []) r some = absurd (omega (arith, some))
piece-more (p ∷ (q ∷ [])) r some = refl
piece-more (p ∷ (q ∷ (s ∷ ps))) r some = refl

-- the last one
pub piece-last : (ps r : List ℕ) → length ps < 2 → 1 ≤ length ps
    → piece_columns ps r ≡ quoted (trimmed (drop (get_or ps 0 0 - 1) r))
unfolding pieces columns_of_fields
piece-last [] r few some = absurd (omega (arith, some))
piece-last (p ∷ []) r few some = refl
piece-last (p ∷ (q ∷ ps)) r few some = absurd (omega (arith, few))

pub piece-none : (ps r : List ℕ) → length ps < 1 → piece_columns ps r ≡ []
unfolding pieces columns_of_fields
piece-none [] r none = refl
piece-none (p ∷ ps) r none = absurd (omega (arith, none))
