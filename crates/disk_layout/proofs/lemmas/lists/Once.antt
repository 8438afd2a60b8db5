-- Lists with no two equal elements, and what is in a list.
use Rattle.std.proofs.Common.{◌≡◌, zero, suc, ◌⊎◌, inl, inr, List, [], ◌∷◌, ◌++◌, refl, sym, ◌∙◌, ap, subst, arith}
use Rattle.std.specs.Prelude.{Contains, Bool, true, false, cond, flat_map, filter, map}
use Rattle.std.specs.List.{AllByRecursion}
use Rattle.std.proofs.lemmas.List.Elements.{Contains-append_left, Contains-append_right, Contains-append_cases}
use Rattle.std.proofs.lemmas.Bool.{false≢true}
use Rattle.disk_layout.specs.Chain.{EachOnce}

pub Contains-nil : {X : Type 0} (x : X) → ¬ (Contains [] x)
Contains-nil x c = omega (arith, c.1)

pub Contains-here : {X : Type 0} (x : X) (xs : List X) → Contains (x ∷ xs) x
Contains-here x xs = (0, omega arith, refl)

pub Contains-there : {X : Type 0} (x y : X) (xs : List X) → Contains xs x → Contains (y ∷ xs) x
Contains-there x y xs c = Contains-append_right (y ∷ []) xs x c

pub Contains-cases : {X : Type 0} (x y : X) (xs : List X) → Contains (y ∷ xs) x → (y ≡ x) ⊎ Contains xs x
Contains-cases x y xs (zero, h, e) = inl e
Contains-cases x y xs (suc k, h, e) = inr (k, omega arith, e)

pub EachOnce-left : {X : Type 0} (xs ys : List X) → EachOnce (xs ++ ys) → EachOnce xs
EachOnce-left [] ys h = tt
EachOnce-left (x ∷ xs) ys h = (λ c. h.0 (Contains-append_left xs ys x c), EachOnce-left xs ys h.1)

pub EachOnce-right : {X : Type 0} (xs ys : List X) → EachOnce (xs ++ ys) → EachOnce ys
EachOnce-right [] ys h = h
EachOnce-right (x ∷ xs) ys h = EachOnce-right xs ys h.1

pub EachOnce-apart : {X : Type 0} (xs ys : List X) → EachOnce (xs ++ ys) → (x : X) → Contains xs x → ¬ (Contains ys x)
EachOnce-apart [] ys h x c d = Contains-nil x c
EachOnce-apart (y ∷ xs) ys h x c d =
    elim (Contains-cases x y xs c) [
      | inl e ↦ h.0 (Contains-append_right xs ys y (rw e d))
      | inr b ↦ EachOnce-apart xs ys h.1 x b d
    ]

pub EachOnce-join : {X : Type 0} (xs ys : List X) → EachOnce xs → EachOnce ys
    → ((x : X) → Contains xs x → ¬ (Contains ys x)) → EachOnce (xs ++ ys)
EachOnce-join [] ys a b h = b
EachOnce-join (x ∷ xs) ys a b h = (
  λ c. elim (Contains-append_cases xs ys x c) [ inl d ↦ a.0 d | inr d ↦ h x (Contains-here x xs) d ],
  EachOnce-join xs ys a.1 b (λ y c. h y (Contains-there y x xs c)),
)

pub EachOnce-push : {X : Type 0} (xs : List X) (x : X) → EachOnce xs → ¬ (Contains xs x) → EachOnce (xs ++ x ∷ [])
EachOnce-push xs x a n = EachOnce-join xs (x ∷ []) a (Contains-nil x, tt)
    (λ y c d. elim (Contains-cases y x [] d) [ inl e ↦ n (rw e c) | inr b ↦ Contains-nil y b ])

-- what is in a list made of another
pub flat_map-in : {X Y : Type 0} (f : X → List Y) (xs : List X) (x : X) (y : Y) → Contains xs x → Contains (f x) y
    → Contains (flat_map f xs) y
flat_map-in f [] x y c d = absurd (Contains-nil x c)
flat_map-in f (z ∷ xs) x y c d =
    elim (Contains-cases x z xs c) [
      | inl e ↦ Contains-append_left (f z) (flat_map f xs) y (rw e d)
      | inr r ↦ Contains-append_right (f z) (flat_map f xs) y (flat_map-in f xs x y r d)
    ]

pub filter-in : {X : Type 0} (t : X → Bool) (xs : List X) (x : X) → Contains xs x → t x ≡ true
    → Contains (filter t xs) x
filter-in t [] x c e = absurd (Contains-nil x c)
filter-in {X} t (z ∷ xs) x c e = step (filter-in t xs x) (t z) refl
  where
    step : (Contains xs x → t x ≡ true → Contains (filter t xs) x) → (b : Bool) → t z ≡ b
        → Contains (cond b (z ∷ filter t xs) (filter t xs)) x
    step more true h = elim (Contains-cases x z xs c) [
      | inl s ↦ rw (← s) (Contains-here z (filter t xs))
      | inr r ↦ Contains-there x z (filter t xs) (more r e)
    ]
    step more false h = elim (Contains-cases x z xs c) [
      | inl s ↦ absurd (false≢true (sym h ∙ ap t s ∙ e))
      | inr r ↦ more r e
    ]

pub map-in : {X Y : Type 0} (f : X → Y) (xs : List X) (y : Y) → Contains (map f xs) y → (x : X) × Contains xs x
    × (f x ≡ y)
map-in f [] y c = absurd (Contains-nil y c)
map-in f (x ∷ xs) y c =
    elim (Contains-cases y (f x) (map f xs) c) [
      | inl e ↦ (x, Contains-here x xs, e)
      | inr r ↦ let (z, d, e) = map-in f xs y r in (z, Contains-there z x xs d, e)
    ]

pub all-in : {X : Type 0} (P : X → Type 0) (xs : List X) (x : X) → AllByRecursion P xs → Contains xs x → P x
all-in P [] x h c = absurd (Contains-nil x c)
all-in P (y ∷ xs) x h c = elim (Contains-cases x y xs c) [ inl e ↦ subst P e h.0 | inr r ↦ all-in P xs x h.1 r ]

-- one more element, which was not there
pub EachOnce-insert : {X : Type 0} (xs ys : List X) (x : X) → EachOnce (xs ++ ys) → ¬ (Contains (xs ++ ys) x)
    → EachOnce (xs ++ x ∷ ys)
EachOnce-insert [] ys x once new = (new, once)
EachOnce-insert (z ∷ xs) ys x once new = (
  λ c. fresh (Contains-append_cases xs (x ∷ ys) z c),
  EachOnce-insert xs ys x once.1 (λ c. new (Contains-there x z (xs ++ ys) c)),
)
  where
    fresh : Contains xs z ⊎ Contains (x ∷ ys) z → ⊥
    fresh (inl d) = once.0 (Contains-append_left xs ys z d)
    fresh (inr d) = elim (Contains-cases z x ys d) [
      | inl e ↦ new (rw e (Contains-here z (xs ++ ys)))
      | inr f ↦ once.0 (Contains-append_right xs ys z f)
    ]

-- a place in a list with one more element
pub insert-out : {X : Type 0} (xs ys : List X) (z x : X) → Contains (xs ++ z ∷ ys) x → (z ≡ x) ⊎ Contains (xs ++ ys) x
insert-out xs ys z x c = elim (Contains-append_cases xs (z ∷ ys) x c) [
  | inl d ↦ inr (Contains-append_left xs ys x d)
  | inr d ↦ elim (Contains-cases x z ys d) [ inl e ↦ inl e | inr e ↦ inr (Contains-append_right xs ys x e) ]
]

pub insert-in : {X : Type 0} (xs ys : List X) (z x : X) → Contains (xs ++ ys) x → Contains (xs ++ z ∷ ys) x
insert-in xs ys z x c = elim (Contains-append_cases xs ys x c) [
  | inl d ↦ Contains-append_left xs (z ∷ ys) x d
  | inr d ↦ Contains-append_right xs (z ∷ ys) x (Contains-there x z ys d)
]
