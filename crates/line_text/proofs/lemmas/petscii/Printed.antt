-- Texts of one byte more.
use Rattle.std.proofs.Common.{◌≡◌, ◌<◌, ◌+◌, ℕ, List, [], ◌∷◌, ◌++◌, take, get_or, length, ap, sym, ◌∙◌}
use Rattle.std.proofs.lemmas.Grind.{flat_map-append}
use Rattle.std.proofs.lemmas.List.{append-nil, take_more}
use Rattle.line_text.specs.petscii.Characters.{readable, readable_byte}
use Rattle.line_text.specs.declared.petscii.characters.CharacterSet.{CharacterSet}

pub readable-next : (set : CharacterSet) (xs : List ℕ) (i : ℕ) → i < length xs
    → readable set (take i xs) ++ readable_byte set (get_or xs i 0) ≡ readable set (take (i + 1) xs)
readable-next set xs i low =
    sym (ap (readable set) (take_more xs i 0 low)
    ∙ flat_map-append (readable_byte set) (take i xs) (get_or xs i 0 ∷ [])
    ∙ ap (λ (text : List ℕ). readable set (take i xs) ++ text) (append-nil (readable_byte set (get_or xs i 0))))
