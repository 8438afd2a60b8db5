-- The sectors of a chain are the image's.
use Rattle.std.proofs.Common.{◌≡◌, ◌<◌, ◌∷◌, [], ℕ, zero, suc, Bool, false, true, List, Option, None, Some, length, refl, subst, ap, sym, ◌∙◌}
use Rattle.std.specs.List.{AllByRecursion}
use Rattle.std.specs.Prelude.{if◌then◌else◌, nat_eq, nat_lt}
use Rattle.std.proofs.lemmas.Bool.{ltb-true}
use Rattle.long_chains.specs.Chains.{before, byte_in, chain_from, chain_of, chain_within}
use Rattle.long_chains.specs.Sectors.{HasSector, if_below, sector_at, sectors_in}

-- a sector below a count
below : (count : ℕ) (o : Option ℕ) (n : ℕ) → if_below count o ≡ Some n → n < count
below count None n is = absurd (cc)
below count (Some m) n is = by (nat_lt m count) refl is
  where
    by : (b : Bool) → nat_lt m count ≡ b → (if b then Some m else None) ≡ Some n → n < count
    by true less are = let same : m ≡ n = cc in subst (λ (k : ℕ). k < count) same (ltb-true m count less)
    by false less are = absurd (cc)

-- a sector, and those of the rest
joins : (P : ℕ → Type 0) (n : ℕ) (o : Option (List ℕ)) (ns : List ℕ) → P n → before n o ≡ Some ns
    → ((ms : List ℕ) → o ≡ Some ms → AllByRecursion P ms) → AllByRecursion P ns
joins P n None ns here is rest = absurd (cc)
joins P n (Some ms) ns here is rest =
    let same : n ∷ ms ≡ ns = cc in subst (AllByRecursion P) same (here, rest ms refl)

module _ (image ns : List ℕ) (rest : ℕ → ℕ → Option (List ℕ))
    (inside : (t s : ℕ) (ms : List ℕ) → rest t s ≡ Some ms → AllByRecursion (HasSector image) ms)
  where
    one : (n : ℕ) → HasSector image n → (b : Bool)
        → (if b then Some (n ∷ []) else before n (rest (byte_in image n 0) (byte_in image n 1))) ≡ Some ns
        → AllByRecursion (HasSector image) ns
    one n has true are = let same : n ∷ [] ≡ ns = cc in subst (AllByRecursion (HasSector image)) same (has, tt)
    one n has false are =
        joins (HasSector image) n (rest (byte_in image n 0) (byte_in image n 1)) ns has are
        (inside (byte_in image n 0) (byte_in image n 1))

    from : (t s : ℕ) (o : Option ℕ) → sector_at image t s ≡ o → chain_from image rest o ≡ Some ns
        → AllByRecursion (HasSector image) ns
    from t s None at are = absurd (cc)
    from t s (Some n) at are =
        one n (below (sectors_in (length image)) _ n at) (nat_eq (byte_in image n 0) 0) are

chain-inside : (image : List ℕ) (k t s : ℕ) (ns : List ℕ) → chain_within image k t s ≡ Some ns
    → AllByRecursion (HasSector image) ns
unfolding chain_within
chain-inside image zero t s ns is = absurd (cc)
chain-inside image (suc k) t s ns is =
    from image ns (chain_within image k) (λ a b ms. chain-inside image k a b ms) t s (sector_at image t s) refl is

-- the sectors of a chain of a disk alone are those of tracks 1 to 35
pub disk-ends : (image : List ℕ) → length image ≡ 174848 → (t s : ℕ) (ns : List ℕ) → chain_of image t s ≡ Some ns
    → AllByRecursion (λ n. n < 683) ns
unfolding sectors_in
disk-ends image size t s ns is =
    subst (λ (count : ℕ). AllByRecursion (λ n. n < sectors_in count) ns) size (chain-inside image 802 t s ns is)
