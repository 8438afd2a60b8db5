-- The steps of a claim of sectors for an owner.
use Rattle.std.proofs.Common.{
  ◌≡◌,
  ◌≢◌,
  ℕ,
  suc,
  ◌+◌,
  ◌<◌,
  ◌≤◌,
  inl,
  inr,
  List,
  [],
  ◌∷◌,
  ◌++◌,
  length,
  get_or,
  take,
  drop,
  sym,
  ◌∙◌,
  ap,
  subst,
}
use Rattle.std.specs.Prelude.{Contains, IsTrue, nat_eq, not}
use Rattle.std.proofs.Common.{arith}
use Rattle.std.proofs.lemmas.Bool.Decides.{nat_tests}
use Rattle.std.proofs.Math.Seq.{drop-cons}
use Rattle.std.proofs.lemmas.List.{take-append-drop, take_more, take_all}
use Rattle.std.proofs.lemmas.List.Elements.{Contains-append_left, Contains-push, Contains-push_cases}
use Rattle.d64_image.specs.declared.place.Place.{Place}
use Rattle.layout_check.specs.declared.owners.Owners.{Owners}
use Rattle.disk_layout.specs.Chain.{EachOnce}
use Rattle.layout_check.specs.Owners.{IsClaimed, IsSystem, owner_of}
use Rattle.disk_layout.proofs.lemmas.lists.Once.{Contains-here, EachOnce-apart}
use Rattle.disk_layout.specs.Directory.{map_place}
use Rattle.d64_image.proofs.Places.{same_or_other}

-- an element of a list of distinct ones does not stand before its place
pub not_before : {X : Type 0} (xs : List X) (i : ℕ) (x : X) → i < length xs → x ≡ get_or xs i x → EachOnce xs
    → ¬ (Contains (take i xs) x)
not_before {X} xs i x h e once =
    let split : take i xs ++ (get_or xs i x ∷ drop (suc i) xs) ≡ xs =
    ap (λ t. take i xs ++ t) (sym (drop-cons xs i x h)) ∙ take-append-drop i xs in
    let apart = let P : List X → Type 0 = EachOnce in subst P (sym split) once in
    λ c. EachOnce-apart (take i xs) (get_or xs i x ∷ drop (suc i) xs) apart x c (let P : X
    → Type 0 = λ y. Contains (y ∷ drop (suc i) xs) x in subst P e (Contains-here x (drop (suc i) xs)))

-- one more place
pub claim-push : (old now new : Owners) (n : ℕ) (ts : List Place) (x : Place) → IsClaimed old now n ts
    → ¬ (Contains ts x) → owner_of now x ≡ 255 → owner_of new x ≡ n
    → ((q : Place) → x ≢ q → owner_of new q ≡ owner_of now q) → IsClaimed old new n (ts ++ x ∷ [])
claim-push old now new n ts x so_far free at here there p = (
  λ c. elim (Contains-push_cases ts x p c) [
    | inl d ↦ let ne : x ≢ p = λ e. free (rw e d) in (((so_far p).0 d).0, there p ne ∙ ((so_far p).0 d).1)
    | inr e ↦ (ap (owner_of old) (sym e) ∙ sym ((so_far x).1 free) ∙ at, ap (owner_of new) (sym e) ∙ here)
  ],
  λ c. there p (λ e. c (rw (← e) (Contains-push ts x))) ∙ (so_far p).1 (λ d. c (Contains-append_left ts (x ∷ []) p d)),
)

pub claim-step : (old now new : Owners) (n i : ℕ) (xs : List Place) (x : Place) → i < length xs → x ≡ get_or xs i x
    → EachOnce xs → IsClaimed old now n (take i xs) → owner_of now x ≡ 255 → owner_of new x ≡ n
    → ((q : Place) → x ≢ q → owner_of new q ≡ owner_of now q) → IsClaimed old new n (take (i + 1) xs)
claim-step old now new n i xs x h e once so_far at here there =
    let more : take (i + 1) xs ≡ take i xs ++ x ∷ [] = take_more xs i x h ∙ ap (λ y. take i xs ++ y ∷ []) (sym e) in
    rw more (claim-push old now new n (take i xs) x so_far (not_before xs i x h e once) at here there)

-- a place that has an owner now, and was not claimed in this call, had one before
pub clash-step : (old now : Owners) (n i : ℕ) (xs : List Place) (x : Place) → i < length xs → x ≡ get_or xs i x
    → EachOnce xs → IsClaimed old now n (take i xs) → owner_of now x ≢ 255 → Contains xs x × (owner_of old x ≢ 255)
clash-step old now n i xs x h e once so_far taken =
    ((i, h, sym e), λ z. taken ((so_far x).1 (not_before xs i x h e once) ∙ z))

pub claim-all : (old now : Owners) (n i : ℕ) (xs : List Place) → length xs ≤ i → IsClaimed old now n (take i xs)
    → IsClaimed old now n xs
claim-all old now n i xs h so_far =
    let all : take i xs ≡ xs = take_all i xs h in
    let P : List Place → Type 0 = IsClaimed old now n in
    subst P all so_far

-- one more sector of the directory
pub system-step : (now new : Owners) (i : ℕ) (xs : List Place) (x : Place) → i < length xs → x ≡ get_or xs i x
    → IsSystem now (take i xs) → owner_of new x ≡ 254 → ((q : Place) → x ≢ q → owner_of new q ≡ owner_of now q)
    → IsSystem new (take (i + 1) xs)
system-step now new i xs x h e so_far here there =
    let more : take (i + 1) xs ≡ take i xs ++ x ∷ [] = take_more xs i x h ∙ ap (λ y. take i xs ++ y ∷ []) (sym e) in
    rw more (system-push now new (take i xs) x so_far here there)
  where
    system-push : (now new : Owners) (ts : List Place) (x : Place) → IsSystem now ts → owner_of new x ≡ 254
        → ((q : Place) → x ≢ q → owner_of new q ≡ owner_of now q) → IsSystem new (ts ++ x ∷ [])
    system-push now new ts x so_far here there p = elim (same_or_other x p) [
      | inl e ↦ (λ c. ap (owner_of new) (sym e) ∙ here, λ n. absurd (n (rw (← e) (Contains-push (map_place ∷ ts) x))))
      | inr n ↦ (
        λ c. elim (Contains-push_cases (map_place ∷ ts) x p c) [
          | inl d ↦ there p n ∙ (so_far p).0 d
          | inr e ↦ absurd (n e)
        ],
        λ c. there p n ∙ (so_far p).1 (λ d. c (Contains-append_left (map_place ∷ ts) (x ∷ []) p d)),
      )
    ]

pub system-all : (t : Owners) (i : ℕ) (xs : List Place) → length xs ≤ i → IsSystem t (take i xs) → IsSystem t xs
system-all t i xs h so_far =
    let all : take i xs ≡ xs = take_all i xs h in
    let P : List Place → Type 0 = IsSystem t in
    subst P all so_far

pub other-number : (n m : ℕ) → IsTrue (not (nat_eq n m)) → n ≢ m
other-number n m t = grind (arith, nat_tests)

pub other-test : (n m : ℕ) → n ≢ m → IsTrue (not (nat_eq n m))
other-test n m ne = grind (arith, nat_tests)
