-- Objects that are gathered one by one.
use Rattle.std.proofs.Common.{◌≡◌, ◌<◌, ◌≤◌, ◌+◌, ◌++◌, ◌∷◌, [], ℕ, suc, List, arith, get_or, length, map, refl, take, ap, ap₂, append_assoc, subst, sym, ◌∙◌}
use Rattle.std.specs.Prelude.{flat_map}
use Rattle.std.proofs.lemmas.Grind.{flat_map-append}
use Rattle.std.proofs.lemmas.List.{append-nil, map-append, map_more, take_more}
use Rattle.d64_image.proofs.Order.{all-taken, place-taken, text-more}
use Rattle.d64_image.specs.Places.{index_of, places}
use Rattle.d64_image.specs.declared.place.Place.{Place}
use Rattle.json_looks.specs.Objects.{up_to}
use Rattle.serde_json.specs.Data.{Data}
use Rattle.serde_json.specs.View.{view}
use Rattle.serde_json.specs.declared.value.Value.{Value}

-- one object more of these
pub one-more : {A : Type 0} (f : A → Data) (xs : List A) (i : ℕ) (d : A) (old new : List Value) (value : Value)
    → i < length xs → view value ≡ f (get_or xs i d) → new ≡ old ++ value ∷ [] → map view old ≡ map f (take i xs)
    → map view new ≡ map f (take (i + 1) xs)
one-more f xs i d old new value inside is more before =
    ap (map view) more ∙ map-append view old (value ∷ [])
    ∙ ap₂ (λ made one. made ++ one ∷ []) before is ∙ sym (map_more f xs i d inside)

-- one object more
pub one_added : (old new : List Value) (value : Value) (d : Data) → view value ≡ d → new ≡ old ++ value ∷ []
    → map view new ≡ map view old ++ d ∷ []
one_added old new value d is more =
    ap (map view) more ∙ map-append view old (value ∷ []) ∙ ap (λ one. map view old ++ one ∷ []) is

-- and none
pub none_added : (old new : List Value) → new ≡ old → map view new ≡ map view old ++ []
none_added old new same = ap (map view) same ∙ sym (append-nil (map view old))

-- there are none for numbers up to 0
pub none-yet : (each : ℕ → List Data) (values : List Value) → values ≡ [] → map view values ≡ up_to 0 each
unfolding up_to
none-yet each values none = ap (map view) none

-- those for one number more
pub next-more : (each : ℕ → List Data) (n : ℕ) (old new : List Value) → map view old ≡ up_to n each
    → map view new ≡ map view old ++ each (n + 1) → map view new ≡ up_to (n + 1) each
unfolding up_to
next-more each n old new before more =
    let next : n + 1 ≡ suc n = omega arith in
    subst (λ (m : ℕ). map view new ≡ up_to m each) (sym next)
    (more ∙ ap₂ ◌++◌ before (ap each next))

-- the same of one object
pub next-one : (each : ℕ → Data) (n : ℕ) (old new : List Value) (value : Value) → view value ≡ each (n + 1)
    → new ≡ old ++ value ∷ [] → map view old ≡ up_to n (λ m. each m ∷ []) → map view new ≡ up_to (n + 1) (λ m. each m ∷ [])
next-one each n old new value is more before =
    next-more (λ m. each m ∷ []) n old new before (one_added old new value (each (n + 1)) is more)

-- one object more for the next place
pub next-place : (f : Place → Data) (i : ℕ) (p : Place) (old new : List Value) (value : Value) → index_of p ≡ i
    → view value ≡ f p → new ≡ old ++ value ∷ [] → map view old ≡ map f (take i places) → map view new ≡ map f (take (i + 1) places)
next-place f i p old new value at is more before =
    one_added old new value (f p) is more ∙ ap (λ made. made ++ f p ∷ []) before
    ∙ sym (map-append f (take i places) (p ∷ [])) ∙ ap (map f) (sym (place-taken i p at))

-- and one for each
pub all-places : (f : Place → Data) (i : ℕ) (values : List Value) → 683 ≤ i → map view values ≡ map f (take i places)
    → map view values ≡ map f places
all-places f i values past before = before ∙ ap (map f) (all-taken i past)

-- the objects of the next place
pub next-place-part : (part : Place → List Data) (i : ℕ) (p : Place) (old new : List Value) → index_of p ≡ i
    → map view new ≡ map view old ++ part p → map view old ≡ flat_map part (take i places)
    → map view new ≡ flat_map part (take (i + 1) places)
next-place-part part i p old new at more before =
    more ∙ ap (λ made. made ++ part p) before ∙ text-more part i p at

pub all-place-parts : (part : Place → List Data) (i : ℕ) (values : List Value) → 683 ≤ i
    → map view values ≡ flat_map part (take i places) → map view values ≡ flat_map part places
all-place-parts part i values past before = before ∙ ap (flat_map part) (all-taken i past)

single : {B : Type 0} (part : B → List Data) (x : B) → flat_map part (x ∷ []) ≡ part x
single part x = append-nil (part x)

-- the objects of one of these more, as they are held in another form
pub next-part : {A B : Type 0} (part : B → List Data) (form : A → B) (xs : List A) (i : ℕ) (d : A) (old new : List Value) → i < length xs
    → map view new ≡ map view old ++ part (form (get_or xs i d)) → map view old ≡ flat_map part (map form (take i xs))
    → map view new ≡ flat_map part (map form (take (i + 1) xs))
next-part part form xs i d old new inside more before =
    more ∙ ap₂ (λ made next. made ++ next) before (sym (single part (form (get_or xs i d))))
    ∙ sym (flat_map-append part (map form (take i xs)) (form (get_or xs i d) ∷ []))
    ∙ ap (flat_map part) (sym (map_more form xs i d inside))

-- the objects of these, as they are held in another form
pub map-twice : {A B C : Type 0} (f : B → C) (g : A → B) (xs : List A) → map f (map g xs) ≡ map (λ x. f (g x)) xs
map-twice f g [] = refl
map-twice f g (x ∷ xs) = ap (λ rest. f (g x) ∷ rest) (map-twice f g xs)

-- the objects of one number more, after others
pub numbers-next : (item : ℕ → List Data) (ns : List ℕ) (i : ℕ) (first old new : List Data) → i < length ns
    → new ≡ old ++ item (get_or ns i 0) → old ≡ first ++ flat_map item (take i ns) → new ≡ first ++ flat_map item (take (i + 1) ns)
numbers-next item ns i first old new inside more before =
    more ∙ ap (λ t. t ++ item (get_or ns i 0)) before ∙ append_assoc first (flat_map item (take i ns)) (item (get_or ns i 0))
    ∙ ap (λ t. first ++ t) (sym (ap (flat_map item) (take_more ns i 0 inside)
    ∙ flat_map-append item (take i ns) (get_or ns i 0 ∷ []) ∙ ap (λ t. flat_map item (take i ns) ++ t) (append-nil (item (get_or ns i 0)))))
