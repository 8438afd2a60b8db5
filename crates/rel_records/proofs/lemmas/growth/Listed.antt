-- The places that a side sector names are listed behind the others.
use Rattle.std.proofs.Common.{◌≡◌, ℕ, ◌≤◌, List, ◌++◌, length, take, ap, arith, ◌∙◌}
use Rattle.std.proofs.lemmas.List.{take_all}
use Rattle.d64_image.specs.declared.place.Place.{Place}

-- all of them, in the end
pub all-listed : (before places now : List Place) (number count : ℕ) → now ≡ before ++ take number places
    → length places ≡ count → count ≤ number
    → now ≡ before ++ places
all-listed before places now number count e long end =
    e ∙ ap (λ (ps : List Place). before ++ ps) (take_all number places (omega (arith, long, end)))
