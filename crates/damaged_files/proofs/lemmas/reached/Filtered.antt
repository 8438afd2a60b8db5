-- One item more, which is mapped, kept or left out.
use Rattle.std.proofs.Common.{◌≡◌, ◌<◌, ◌+◌, ◌++◌, ◌∷◌, [], ℕ, List, Bool, true, false, append-nil, get_or, length, map, refl, take, ap, ap₂, sym, ◌∙◌}
use Rattle.std.specs.Prelude.{filter}
use Rattle.std.proofs.lemmas.List.{map_more, take_more}
use Rattle.std.proofs.lemmas.List.Elements.{filter-append}

pub map-next : {X Y : Type 0} (f : X → Y) (xs : List X) (ys new : List Y) (i : ℕ) (d : X) (y : Y) → i < length xs
    → y ≡ f (get_or xs i d) → ys ≡ map f (take i xs) → new ≡ ys ++ y ∷ [] → new ≡ map f (take (i + 1) xs)
map-next f xs ys new i d y inside is before more =
    more ∙ ap₂ (λ made one. made ++ one ∷ []) before is ∙ sym (map_more f xs i d inside)

filter-next : {X : Type 0} (p : X → Bool) (xs : List X) (i : ℕ) (x : X) → i < length xs → x ≡ get_or xs i x
    → filter p (take (i + 1) xs) ≡ filter p (take i xs) ++ filter p (x ∷ [])
filter-next p xs i x inside here =
    ap (filter p) (take_more xs i x inside ∙ ap (λ y. take i xs ++ y ∷ []) (sym here)) ∙ filter-append p (take i xs) (x ∷ [])

keeps : {X : Type 0} (p : X → Bool) (x : X) → p x ≡ true → filter p (x ∷ []) ≡ x ∷ []
keeps p x is = rw is refl

drops : {X : Type 0} (p : X → Bool) (x : X) → p x ≡ false → filter p (x ∷ []) ≡ []
drops p x is = rw is refl

pub filter-kept : {X : Type 0} (p : X → Bool) (xs kept new : List X) (i : ℕ) (x : X) → i < length xs
    → x ≡ get_or xs i x → p x ≡ true → kept ≡ filter p (take i xs) → new ≡ kept ++ x ∷ []
    → new ≡ filter p (take (i + 1) xs)
filter-kept p xs kept new i x inside here is before more =
    more ∙ ap₂ ◌++◌ before (sym (keeps p x is)) ∙ sym (filter-next p xs i x inside here)

pub filter-left : {X : Type 0} (p : X → Bool) (xs kept : List X) (i : ℕ) (x : X) → i < length xs
    → x ≡ get_or xs i x → p x ≡ false → kept ≡ filter p (take i xs) → kept ≡ filter p (take (i + 1) xs)
filter-left p xs kept i x inside here is before =
    before ∙ sym (append-nil (filter p (take i xs))) ∙ ap (λ ys. filter p (take i xs) ++ ys) (sym (drops p x is))
    ∙ sym (filter-next p xs i x inside here)
