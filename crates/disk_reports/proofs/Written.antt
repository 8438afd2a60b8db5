-- Texts written one after another.
use Rattle.std.proofs.Common.{◌≡◌, ◌+◌, ◌<◌, ◌++◌, ◌∷◌, [], ℕ, List, ap, get_or, length, subst, sym, take, ◌∙◌}
use Rattle.std.specs.Prelude.{Option, flat_map}
use Rattle.std.specs.Io.KnownBytes.{Appends}
use Rattle.std.proofs.KnownBytes.{Appends-trans}
use Rattle.std.proofs.lemmas.List.{flat_map_more, take_more}

-- the text of one item more
pub text-more : {X : Type 0} (text : X → List ℕ) (a b c : Option (List ℕ)) (xs : List X) (i : ℕ) (x : X)
    → i < length xs → x ≡ get_or xs i x → Appends a b (flat_map text (take i xs)) → Appends b c (text x)
    → Appends a c (flat_map text (take (i + 1) xs))
text-more text a b c xs i x inside here before more =
    let taken = take_more xs i x inside ∙ ap (λ y. take i xs ++ y ∷ []) (sym here) in
    subst (Appends a c) (flat_map_more text [] (take i xs) x ∙ ap (flat_map text) (sym taken))
    (Appends-trans a b c _ _ before more)

-- three texts
pub three : (a b c d : Option (List ℕ)) (x y z : List ℕ) → Appends a b x → Appends b c y → Appends c d z
    → Appends a d (x ++ (y ++ z))
three a b c d x y z first second third = Appends-trans a b d x (y ++ z) first (Appends-trans b c d y z second third)

-- four texts
pub four : (a b c d e : Option (List ℕ)) (x y z w : List ℕ) → Appends a b x → Appends b c y → Appends c d z
    → Appends d e w → Appends a e (x ++ (y ++ (z ++ w)))
four a b c d e x y z w first second third fourth =
    Appends-trans a b e x (y ++ (z ++ w)) first (three b c d e y z w second third fourth)
