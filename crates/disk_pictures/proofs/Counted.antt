-- Numbers of which each below a limit stands once in a list are as many as the limit.
use Rattle.std.proofs.Common.{◌≡◌, ◌≢◌, ◌<◌, ◌≤◌, inl, inr, ◌+◌, ℕ, zero, suc, Bool, List, [], ◌∷◌}
use Rattle.std.proofs.Common.{◌++◌, length, eq-eqb, ne_eqb, refl, subst, sym, ap, ◌∙◌, arith}
use Rattle.std.specs.Prelude.{if◌then◌else◌, flat_map, nat_eq}
use Rattle.std.specs.List.{AllByRecursion}
use Rattle.std.proofs.lemmas.Bool.{cases_eq}
use Rattle.disk_pictures.specs.Sectors.{times}
use Rattle.disk_pictures.specs.Texts.{each_below, numbered}

abbrev pub hit : ℕ → ℕ → ℕ
hit n x = if nat_eq n x then 1 else 0

pub hit-same : (n x : ℕ) → n ≡ x → hit n x ≡ 1
hit-same n x e = subst (λ (y : ℕ). hit n y ≡ 1) e (ap (λ (b : Bool). if b then 1 else 0) (eq-eqb n n refl))

pub hit-other : (n x : ℕ) → n ≢ x → hit n x ≡ 0
hit-other n x ne = ap (λ (b : Bool). if b then 1 else 0) (ne_eqb n x ne)

pub times-cons : (n x : ℕ) (xs : List ℕ) → times n (x ∷ xs) ≡ hit n x + times n xs
unfolding times
times-cons n x xs = refl

pub times-nil : (n : ℕ) → times n [] ≡ 0
unfolding times
times-nil n = refl

pub times-append : (n : ℕ) (xs ys : List ℕ) → times n (xs ++ ys) ≡ times n xs + times n ys
times-append n [] ys = let none = times-nil n in omega (arith, none)
times-append n (x ∷ xs) ys =
    omega (arith, times-cons n x (xs ++ ys), times-cons n x xs, times-append n xs ys)

unfoldable sum_below : ℕ → (ℕ → ℕ) → ℕ
sum_below zero f = 0
sum_below (suc m) f = sum_below m f + f m

sum-add : (m : ℕ) (f g : ℕ → ℕ) → sum_below m (λ n. f n + g n) ≡ sum_below m f + sum_below m g
unfolding sum_below
sum-add zero f g = refl
sum-add (suc m) f g = omega (arith, sum-add m f g)

sum-same : (m : ℕ) (f g : ℕ → ℕ) → ((n : ℕ) → f n ≡ g n) → sum_below m f ≡ sum_below m g
unfolding sum_below
sum-same zero f g same = refl
sum-same (suc m) f g same = omega (arith, sum-same m f g same, same m)

sum-past : (m x : ℕ) → m ≤ x → sum_below m (λ n. hit n x) ≡ 0
unfolding sum_below
sum-past zero x past = refl
sum-past (suc m) x past =
    let none = hit-other m x (λ e. omega (arith, e, past)) in
    omega (arith, none, sum-past m x (omega (arith, past)))

sum-hit : (m x : ℕ) → x < m → sum_below m (λ n. hit n x) ≡ 1
unfolding sum_below
sum-hit zero x lt = absurd (omega (arith, lt))
sum-hit (suc m) x lt = elim (cases_eq m x) [
  | inl e ↦ omega (arith, hit-same m x e, sum-past m x (omega (arith, e)))
  | inr ne ↦ omega (arith, hit-other m x ne, sum-hit m x (omega (arith, lt, ne)))
]

sum-none : (m : ℕ) → sum_below m (λ n. times n []) ≡ 0
unfolding sum_below times
sum-none zero = refl
sum-none (suc m) = omega (arith, sum-none m)

abbrev pub AllBelow : ℕ → List ℕ → Type 0
AllBelow m xs = AllByRecursion (λ x. x < m) xs

sum-length : (m : ℕ) (xs : List ℕ) → AllBelow m xs → sum_below m (λ n. times n xs) ≡ length xs
sum-length m [] all = sum-none m
sum-length m (x ∷ xs) all =
    let split = sum-same m (λ n. times n (x ∷ xs)) (λ n. hit n x + times n xs) (λ n. times-cons n x xs) in
    let parts = sum-add m (λ n. hit n x) (λ n. times n xs) in
    omega (arith, split, parts, sum-hit m x all.0, sum-length m xs all.1)

sum-ones : (m : ℕ) (f : ℕ → ℕ) → ((n : ℕ) → n < m → f n ≡ 1) → sum_below m f ≡ m
unfolding sum_below
sum-ones zero f ones = refl
sum-ones (suc m) f ones =
    omega (arith, sum-ones m f (λ n lt. ones n (omega (arith, lt))), ones m (omega arith))

pub as-many : (m : ℕ) (xs : List ℕ) → AllBelow m xs → ((n : ℕ) → n < m → times n xs ≡ 1) → length xs ≡ m
as-many m xs all ones = sym (sum-length m xs all) ∙ sum-ones m (λ n. times n xs) ones

-- lists that are put together
pub all-append : (m : ℕ) (xs ys : List ℕ) → AllBelow m xs → AllBelow m ys → AllBelow m (xs ++ ys)
all-append m [] ys a b = b
all-append m (x ∷ xs) ys a b = (a.0, all-append m xs ys a.1 b)

pub all-numbered : {X : Type 0} (m : ℕ) (line : ℕ → X → List ℕ) → ((k : ℕ) (x : X) → AllBelow m (line k x)) → (k : ℕ)
    (xs : List X) → AllBelow m (numbered line k xs)
unfolding numbered
all-numbered m line each k [] = tt
all-numbered m line each k (x ∷ xs) =
    all-append m (line k x) (numbered line (k + 1) xs) (each k x) (all-numbered m line each (k + 1) xs)

pub all-below : (m : ℕ) (line : ℕ → List ℕ) → ((i : ℕ) → AllBelow m (line i)) → (n : ℕ) → AllBelow m (each_below n line)
unfolding each_below
all-below m line each zero = tt
all-below m line each (suc n) = all-append m (each_below n line) (line n) (all-below m line each n) (each n)

pub all-flat : {X : Type 0} (m : ℕ) (line : X → List ℕ) → ((x : X) → AllBelow m (line x)) → (xs : List X)
    → AllBelow m (flat_map line xs)
all-flat m line each [] = tt
all-flat m line each (x ∷ xs) = all-append m (line x) (flat_map line xs) (each x) (all-flat m line each xs)

-- how often a number stands in lines
pub below-none : (n m : ℕ) (line : ℕ → List ℕ) → ((i : ℕ) → i < m → times n (line i) ≡ 0)
    → times n (each_below m line) ≡ 0
unfolding each_below
below-none n zero line none = times-nil n
below-none n (suc m) line none =
    omega (
      arith,
      times-append n (each_below m line) (line m),
      none m (omega arith),
      below-none n m line (λ i lt. none i (omega (arith, lt))),
    )

pub below-one : (n m i : ℕ) (line : ℕ → List ℕ) → i < m → times n (line i) ≡ 1
    → ((j : ℕ) → j ≢ i → times n (line j) ≡ 0) → times n (each_below m line) ≡ 1
unfolding each_below
below-one n zero i line lt one none = absurd (omega (arith, lt))
below-one n (suc m) i line lt one none = elim (cases_eq m i) [
  | inl e ↦ omega (
    arith,
    times-append n (each_below m line) (line m),
    subst (λ (j : ℕ). times n (line j) ≡ 1) (sym e) one,
    below-none n m line (λ j less. none j (λ h. omega (arith, h, e, less))),
  )
  | inr ne ↦ omega (
    arith,
    times-append n (each_below m line) (line m),
    none m ne,
    below-one n m i line (omega (arith, lt, ne)) one none,
  )
]
