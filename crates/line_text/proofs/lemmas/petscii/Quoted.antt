-- Texts of one byte more.
use Rattle.std.proofs.Common.{◌≡◌, ◌<◌, ◌+◌, ℕ, List, [], ◌∷◌, ◌++◌, take, get_or, length, ap, sym, ◌∙◌}
use Rattle.std.proofs.lemmas.Grind.{flat_map-append}
use Rattle.std.proofs.lemmas.List.{append-nil, take_more}
use Rattle.line_text.specs.declared.petscii.characters.CharacterSet.{CharacterSet}
use Rattle.line_text.specs.petscii.Quoted.{one_line, quoted_byte}

pub one_line-next : (set : CharacterSet) (xs : List ℕ) (i : ℕ) → i < length xs
    → one_line set (take i xs) ++ quoted_byte set (get_or xs i 0) ≡ one_line set (take (i + 1) xs)
one_line-next set xs i low =
    sym (ap (one_line set) (take_more xs i 0 low)
    ∙ flat_map-append (quoted_byte set) (take i xs) (get_or xs i 0 ∷ [])
    ∙ ap (λ (text : List ℕ). one_line set (take i xs) ++ text) (append-nil (quoted_byte set (get_or xs i 0))))
