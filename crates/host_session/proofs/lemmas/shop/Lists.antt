-- Records of a list, one of them changed.
use Rattle.std.proofs.Common.{◌≡◌, ◌≢◌, ◌⊎◌, ℕ, zero, suc, ◌<◌, ◌≤◌, inl, inr, List, [], ◌∷◌, ◌++◌, length, replicate}
use Rattle.std.proofs.Common.{take, map, refl, ◌∙◌, ap, arith}
use Rattle.std.specs.Prelude.{IsSome, Some, None, slice_get, set}
use Rattle.std.proofs.lemmas.Bool.{false≢true}
use Rattle.std.proofs.lemmas.Option.{none-some, same_Some}
use Rattle.host_session.specs.shop.Files.{record_at, with_record}
use Rattle.disk_layout.proofs.lemmas.growth.SideWrites.{get-append}

-- the changed record, and each other
pub get-set_same : {X : Type 0} (xs : List X) (n : ℕ) (x y : X) → slice_get xs n ≡ Some x
    → slice_get (set xs n y) n ≡ Some y
get-set_same [] n x y h = absurd (none-some x h)
get-set_same (z ∷ xs) zero x y h = refl
get-set_same (z ∷ xs) (suc n) x y h = get-set_same xs n x y h

pub get-set_other : {X : Type 0} (xs : List X) (k n : ℕ) (y : X) → k ≢ n → slice_get (set xs n y) k ≡ slice_get xs k
get-set_other [] k n y h = refl
get-set_other (z ∷ xs) zero zero y h = absurd (h refl)
get-set_other (z ∷ xs) zero (suc n) y h = refl
get-set_other (z ∷ xs) (suc k) zero y h = refl
get-set_other (z ∷ xs) (suc k) (suc n) y h = get-set_other xs k n y (λ e. h (ap suc e))

-- a record that is there has a number from 1 to the last
pub record-within : {X : Type 0} (xs : List X) (r : ℕ) → IsSome (record_at xs r) → (1 ≤ r) × (r ≤ length xs)
record-within xs zero some = absurd (false≢true some)
record-within [] (suc n) some = absurd (false≢true some)
record-within (x ∷ xs) (suc zero) some = (omega arith, omega arith)
record-within (x ∷ xs) (suc (suc n)) some = let (low, high) = record-within xs (suc n) some in
    (omega arith, omega (arith, high))

-- and one with such a number is there
pub record-there : {X : Type 0} (xs : List X) (r : ℕ) → 1 ≤ r → r ≤ length xs → (x : X) × (record_at xs r ≡ Some x)
record-there xs zero low le = absurd (omega (arith, low))
record-there [] (suc n) low le = absurd (omega (arith, le))
record-there (x ∷ xs) (suc zero) low le = (x, refl)
record-there (x ∷ xs) (suc (suc n)) low le = record-there xs (suc n) (omega arith) (omega (arith, le))

pub record_at-with_same : {X : Type 0} (xs : List X) (r : ℕ) (x y : X) → record_at xs r ≡ Some x
    → record_at (with_record xs r y) r ≡ Some y
record_at-with_same xs zero x y h = absurd (none-some x h)
record_at-with_same xs (suc n) x y h = get-set_same xs n x y h

pub record_at-with_other : {X : Type 0} (xs : List X) (k r : ℕ) (y : X) → k ≢ r
    → record_at (with_record xs r y) k ≡ record_at xs k
record_at-with_other xs k zero y h = refl
record_at-with_other xs zero (suc n) y h = refl
record_at-with_other xs (suc k) (suc n) y h = get-set_other xs k n y (λ e. h (ap suc e))

pub length-with : {X : Type 0} (xs : List X) (r : ℕ) (y : X) → length (with_record xs r y) ≡ length xs
length-with xs zero y = refl
length-with xs (suc n) y = length-set xs n y
  where
    length-set : {X : Type 0} (xs : List X) (n : ℕ) (y : X) → length (set xs n y) ≡ length xs
    length-set [] n y = refl
    length-set (x ∷ xs) zero y = refl
    length-set (x ∷ xs) (suc n) y = ap suc (length-set xs n y)

take-set : {X : Type 0} (n : ℕ) (xs : List X) (k : ℕ) (y : X) → take n (set xs k y) ≡ set (take n xs) k y
take-set zero xs k y = refl
take-set (suc n) [] k y = refl
take-set (suc n) (x ∷ xs) zero y = refl
take-set (suc n) (x ∷ xs) (suc k) y = ap (λ zs. x ∷ zs) (take-set n xs k y)

map-set : {X Y : Type 0} (f : X → Y) (xs : List X) (k : ℕ) (y : X) → map f (set xs k y) ≡ set (map f xs) k (f y)
map-set f [] k y = refl
map-set f (x ∷ xs) zero y = refl
map-set f (x ∷ xs) (suc k) y = ap (λ zs. f x ∷ zs) (map-set f xs k y)

-- the first n records, each read by f, of a list with one record changed
pub map-take-with : {X Y : Type 0} (f : X → Y) (n : ℕ) (xs : List X) (r : ℕ) (y : X)
    → map f (take n (with_record xs r y)) ≡ with_record (map f (take n xs)) r (f y)
map-take-with f n xs zero y = refl
map-take-with f n xs (suc k) y = ap (map f) (take-set n xs k y) ∙ map-set f (take n xs) k y

get-map_take : {X Y : Type 0} (f : X → Y) (n : ℕ) (xs : List X) (k : ℕ) (x : X) → k < n → slice_get xs k ≡ Some x
    → slice_get (map f (take n xs)) k ≡ Some (f x)
get-map_take f zero xs k x h e = absurd (omega (arith, h))
get-map_take f (suc n) [] k x h e = absurd (none-some x e)
get-map_take f (suc n) (z ∷ xs) zero x h e = ap Some (ap f (same_Some z x e))
get-map_take f (suc n) (z ∷ xs) (suc k) x h e = get-map_take f n xs k x (omega (arith, h)) e

pub record_at-map_take : {X Y : Type 0} (f : X → Y) (n : ℕ) (xs : List X) (r : ℕ) (x : X) → r ≤ n
    → record_at xs r ≡ Some x → record_at (map f (take n xs)) r ≡ Some (f x)
record_at-map_take f n xs zero x h e = absurd (none-some x e)
record_at-map_take f n xs (suc k) x h e = get-map_take f n xs k x (omega (arith, h)) e

-- records added behind the others

pub record_at-append : {X : Type 0} (xs ys : List X) (r : ℕ) (x : X) → record_at xs r ≡ Some x
    → record_at (xs ++ ys) r ≡ Some x
record_at-append xs ys zero x e = absurd (none-some x e)
record_at-append xs ys (suc k) x e = get-append xs ys k x e

-- a record of the longer list is one of the shorter, or the added one
get-append_replicate : {X : Type 0} (xs : List X) (m k : ℕ) (e : X)
    → (slice_get (xs ++ replicate m e) k ≡ slice_get xs k)
    ⊎ ((slice_get xs k ≡ None) × (slice_get (xs ++ replicate m e) k ≡ Some e))
get-append_replicate [] zero k e = inl refl
get-append_replicate [] (suc m) zero e = inr (refl, refl)
get-append_replicate [] (suc m) (suc k) e = get-append_replicate [] m k e
get-append_replicate (z ∷ xs) m zero e = inl refl
get-append_replicate (z ∷ xs) m (suc k) e = get-append_replicate xs m k e

pub record_at-append_replicate : {X : Type 0} (xs : List X) (m r : ℕ) (e : X)
    → (record_at (xs ++ replicate m e) r ≡ record_at xs r)
    ⊎ ((record_at xs r ≡ None) × (record_at (xs ++ replicate m e) r ≡ Some e))
record_at-append_replicate xs m zero e = inl refl
record_at-append_replicate xs m (suc k) e = get-append_replicate xs m k e
