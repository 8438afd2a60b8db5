-- Lists: their parts, their elements by index, and what is made of each element.
use Rattle.std.proofs.Common.{
  ◌≡◌,
  ◌<◌,
  ◌≤◌,
  ◌+◌,
  ℕ,
  zero,
  suc,
  Bool,
  true,
  false,
  inl,
  inr,
  List,
  [],
  ◌∷◌,
  ◌++◌,
  Some,
  None,
  Option,
  drop,
  length,
  map,
  take,
  refl,
  sym,
  ◌∙◌,
  ap,
  arith,
  length-append,
  get_or,
  ◌⊎◌,
}
use Rattle.std.specs.Prelude.{Contains, cond, filter, option_map, slice_get}
use Rattle.std.specs.List.{AllByRecursion}
use Rattle.std.proofs.lemmas.Option.{slice_get-get_or, slice_get-map, slice_get_read}
use Rattle.disk_layout.proofs.lemmas.counts.Recount.{filter-out}
use Rattle.disk_layout.proofs.lemmas.layouts.Layouts.{get-contains}
use Rattle.disk_layout.proofs.lemmas.lists.Once.{Contains-cases, Contains-here, Contains-nil, Contains-there}
use Rattle.disk_layout.specs.Chain.{EachOnce}

-- the first m of the first n
pub take-take : {X : Type 0} (m n : ℕ) (xs : List X) → m ≤ n → take m (take n xs) ≡ take m xs
take-take zero n xs h = refl
take-take (suc m) zero xs h = absurd (omega arith)
take-take (suc m) (suc n) [] h = refl
take-take (suc m) (suc n) (x ∷ xs) h = ap (λ ys. x ∷ ys) (take-take m n xs (omega arith))

-- one element more
pub take-get : {X : Type 0} (xs : List X) (n : ℕ) (x : X) → slice_get xs n ≡ Some x
    → take (n + 1) xs ≡ take n xs ++ x ∷ []
take-get [] n x e = cc
take-get (y ∷ ys) zero x e = let one : y ≡ x = cc in ap (λ z. z ∷ []) one
take-get (y ∷ ys) (suc n) x e = let next : suc n + 1 ≡ suc (n + 1) = omega arith in
    rw next (ap (λ zs. y ∷ zs) (take-get ys n x e))

-- each index below the length has an element
pub get-some : {X : Type 0} (xs : List X) (k : ℕ) → k < length xs → (x : X) × (slice_get xs k ≡ Some x)
get-some [] k h = absurd (omega arith)
get-some (x ∷ xs) zero h = (x, refl)
get-some (x ∷ xs) (suc k) h = get-some xs k (omega arith)

-- the element that is read is the one there
pub read-there : {X : Type 0} (xs : List X) (n : ℕ) (x : X) → n < length xs → x ≡ get_or xs n x
    → slice_get xs n ≡ Some x
read-there xs n x lt e = slice_get_read xs (length xs) n x refl lt e

-- an element of a part
pub get-drop : {X : Type 0} (xs : List X) (a k : ℕ) → slice_get (drop a xs) k ≡ slice_get xs (a + k)
get-drop [] zero k = refl
get-drop [] (suc a) k = refl
get-drop (x ∷ xs) zero k = ap (slice_get (x ∷ xs)) (let e : k ≡ 0 + k = omega arith in e)
get-drop (x ∷ xs) (suc a) k = let e : suc a + k ≡ suc (a + k) = omega arith in rw e (get-drop xs a k)

pub get-take : {X : Type 0} (xs : List X) (n k : ℕ) → k < n → slice_get (take n xs) k ≡ slice_get xs k
get-take xs zero k h = absurd (omega arith)
get-take [] (suc n) k h = refl
get-take (x ∷ xs) (suc n) zero h = refl
get-take (x ∷ xs) (suc n) (suc k) h = get-take xs n k (omega arith)

-- an element of a list with one more at the end
pub get-push : {X : Type 0} (xs : List X) (x : X) (k : ℕ) (y : X) → slice_get (xs ++ x ∷ []) k ≡ Some y
    → (slice_get xs k ≡ Some y) ⊎ ((k ≡ length xs) × (x ≡ y))
get-push [] x zero y h = inr (refl, cc)
get-push [] x (suc k) y h = cc
get-push (z ∷ xs) x zero y h = inl h
get-push (z ∷ xs) x (suc k) y h = elim (get-push xs x k y h) [ inl e ↦ inl e | inr e ↦ inr (ap suc e.0, e.1) ]

-- what stands before an element, and behind it
pub split-get : {X : Type 0} (xs : List X) (k : ℕ) (x : X) → slice_get xs k ≡ Some x → (before : List X)
    × (after : List X) × (xs ≡ before ++ x ∷ after) × (length before ≡ k)
split-get [] k x e = cc
split-get (y ∷ xs) zero x e = let one : y ≡ x = cc in ([], xs, ap (λ z. z ∷ xs) one, refl)
split-get (y ∷ xs) (suc k) x e = let (before, after, split, at) = split-get xs k x e in
    (y ∷ before, after, ap (λ zs. y ∷ zs) split, ap suc at)

-- what is in a list has an index
pub contains-get : {X : Type 0} (xs : List X) (x : X) → Contains xs x → (k : ℕ) × (slice_get xs k ≡ Some x)
contains-get xs x (k, lt, e) = (k, slice_get-get_or xs k x lt ∙ ap Some e)

-- and one index, where no two are equal
pub get-once : {X : Type 0} (xs : List X) (i j : ℕ) (x : X) → EachOnce xs → slice_get xs i ≡ Some x
    → slice_get xs j ≡ Some x → i ≡ j
get-once [] i j x once a b = cc
get-once (y ∷ xs) zero zero x once a b = refl
get-once (y ∷ xs) zero (suc j) x once a b = let s : y ≡ x = cc in absurd (once.0 (rw s (get-contains xs j x b)))
get-once (y ∷ xs) (suc i) zero x once a b = let s : y ≡ x = cc in absurd (once.0 (rw s (get-contains xs i x a)))
get-once (y ∷ xs) (suc i) (suc j) x once a b = ap suc (get-once xs i j x once.1 a b)

-- where each element has its number, no two are equal
pub numbered-once : {X : Type 0} (f : X → ℕ) (n : ℕ) (xs : List X) → ((k : ℕ) (x : X) → slice_get xs k ≡ Some x
    → f x ≡ n + k) → EachOnce xs
numbered-once f n [] h = tt
numbered-once f n (x ∷ xs) h = (
  λ c. let (k, e) = contains-get xs x c in omega (arith, h 0 x refl, h (suc k) x e),
  numbered-once f (n + 1) xs (λ k y e. omega (arith, h (suc k) y e)),
)

-- two lists with one element behind each
pub snoc-last : {X : Type 0} (xs ys : List X) (x y : X) → xs ++ x ∷ [] ≡ ys ++ y ∷ [] → x ≡ y
snoc-last [] [] x y e = cc
snoc-last [] (z ∷ ys) x y e = let none : [] ≡ ys ++ y ∷ [] = cc in
    absurd (omega (arith, ap length none, length-append ys (y ∷ [])))
snoc-last (w ∷ xs) [] x y e = let none : xs ++ x ∷ [] ≡ [] = cc in
    absurd (omega (arith, ap length none, length-append xs (x ∷ [])))
snoc-last (w ∷ xs) (z ∷ ys) x y e = let rest : xs ++ x ∷ [] ≡ ys ++ y ∷ [] = cc in snoc-last xs ys x y rest

-- what is made of an element is among what is made of all
pub in-map : {X Y : Type 0} (f : X → Y) (xs : List X) (x : X) → Contains xs x → Contains (map f xs) (f x)
in-map f [] x c = absurd (Contains-nil x c)
in-map f (y ∷ xs) x c = elim (Contains-cases x y xs c) [
  | inl e ↦ rw (← e) (Contains-here (f y) (map f xs))
  | inr d ↦ Contains-there (f x) (f y) (map f xs) (in-map f xs x d)
]

-- what an option was made from
pub made-from : {X Y : Type 0} (g : X → Y) (o : Option X) (z : Y) → option_map g o ≡ Some z → (x : X) × (o ≡ Some x)
    × (g x ≡ z)
made-from g None z e = cc
made-from g (Some x) z e = (x, refl, cc)

-- where the same is made of two lists, an element of the one has its like in the other, at the same place
pub alike : {X Y : Type 0} (f g : X → Y) (xs ys : List X) (k : ℕ) (x : X) → map f xs ≡ map g ys
    → slice_get xs k ≡ Some x → (y : X) × (slice_get ys k ≡ Some y) × (g y ≡ f x)
alike f g xs ys k x e there =
    made-from g (slice_get ys k) (f x) (sym (slice_get-map g ys k) ∙ ap (λ (zs : List _). slice_get zs k) (sym e)
    ∙ slice_get-map f xs k ∙ ap (option_map f) there)

-- what is filtered is distinct where all is
pub filter-once : {X : Type 0} (t : X → Bool) (xs : List X) → EachOnce xs → EachOnce (filter t xs)
filter-once t [] once = tt
filter-once {X} t (x ∷ xs) once = step (t x) (filter-once t xs once.1)
  where
    step : (b : Bool) → EachOnce (filter t xs) → EachOnce (cond b (x ∷ filter t xs) (filter t xs))
    step true rest = (λ c. once.0 (filter-out t xs x c).0, rest)
    step false rest = rest

-- what holds of each, and of one more
pub all-push : {X : Type 0} (P : X → Type 0) (xs : List X) (x : X) → AllByRecursion P xs → P x
    → AllByRecursion P (xs ++ x ∷ [])
all-push P [] x h p = (p, tt)
all-push P (y ∷ xs) x h p = (h.0, all-push P xs x h.1 p)

-- what follows for each from what holds of it
pub all-map : {X : Type 0} (P Q : X → Type 0) (xs : List X) → ((x : X) → Contains xs x → P x → Q x)
    → AllByRecursion P xs → AllByRecursion Q xs
all-map P Q [] h a = tt
all-map P Q (x ∷ xs) h a = (h x (Contains-here x xs) a.0, all-map P Q xs (λ y c. h y (Contains-there y x xs c)) a.1)
