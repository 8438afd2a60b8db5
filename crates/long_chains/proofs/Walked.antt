-- A walk along a chain, one sector after another.
use Rattle.std.proofs.Common.{◌≡◌, ◌<◌, ◌≤◌, ◌-◌, ◌+◌, ◌*◌, ◌∙◌, ◌∷◌, ◌++◌, ℕ, suc, Bool, false, true, List, [], None, Option, Some, ap, append_assoc, arith, inl, inr, length, length-append, refl, subst, sym}
use Rattle.std.specs.List.{AllByRecursion}
use Rattle.std.proofs.lemmas.Bool.Decides.{eqb_tells}
use Rattle.std.specs.Prelude.{if◌then◌else◌, nat_eq, slice_index}
use Rattle.long_chains.specs.Chains.{before, byte_in, chain_from, chain_within}
use Rattle.long_chains.specs.Sectors.{sector_at}

-- these sectors, and after them those of the rest, if that comes to its end
abbrev pub joined : List ℕ → Option (List ℕ) → Option (List ℕ)
joined ns None = None
joined ns (Some rest) = Some (ns ++ rest)

pub joined-none : (o : Option (List ℕ)) → o ≡ joined [] o
joined-none None = refl
joined-none (Some ns) = refl

joined-one : (ns : List ℕ) (n : ℕ) (o : Option (List ℕ)) → joined ns (before n o) ≡ joined (ns ++ n ∷ []) o
joined-one ns n None = refl
joined-one ns n (Some rest) = ap (λ (l : List ℕ). Some l) (sym (append_assoc ns (n ∷ []) rest))

-- the first byte of a sector
pub first-byte : (image : List ℕ) (n : ℕ) → slice_index image (256 * n) ≡ byte_in image n 0
first-byte image n = let e : 256 * n ≡ 256 * n + 0 = omega arith in ap (λ (k : ℕ). slice_index image k) e

pub no-zero : (b : ℕ) → (b ≡ 0 → ⊥) → nat_eq b 0 ≡ false
no-zero b more = elim (eqb_tells b 0) [
  | inl is ↦ absurd (more is.1)
  | inr isnt ↦ isnt.0
]

-- one turn of it
within-step : (image : List ℕ) (ns : List ℕ) (t s : ℕ) (n : Option ℕ) → length ns < 802 → sector_at image t s ≡ n
    → chain_within image (802 - length ns) t s ≡ chain_from image (chain_within image (801 - length ns)) n
unfolding chain_within
within-step image ns t s n few at =
    let e : 802 - length ns ≡ suc (801 - length ns) = omega (arith, few) in
    ap (λ (k : ℕ). chain_within image k t s) e ∙ ap (chain_from image (chain_within image (801 - length ns))) at

module _ (image : List ℕ) (whole : Option (List ℕ)) (ns : List ℕ) (t s : ℕ)
    (so_far : whole ≡ joined ns (chain_within image (802 - length ns) t s))
  where
    -- there are as many as an image may have
    pub ends-nowhere : 802 ≤ length ns → None ≡ whole
    unfolding chain_within
    ends-nowhere many =
        let e : 802 - length ns ≡ 0 = omega (arith, many) in
        sym (so_far ∙ ap (λ (k : ℕ). joined ns (chain_within image k t s)) e)

    pub leads-nowhere : length ns < 802 → sector_at image t s ≡ None → None ≡ whole
    leads-nowhere few at = sym (so_far ∙ ap (joined ns) (within-step image ns t s None few at))

    on : (n : ℕ) (b : Bool) (rest : ℕ → ℕ → Option (List ℕ)) → nat_eq (byte_in image n 0) 0 ≡ b
        → chain_from image rest (Some n)
        ≡ (if b then Some (n ∷ []) else before n (rest (byte_in image n 0) (byte_in image n 1)))
    on n b rest is =
        ap (λ (c : Bool). if c then Some (n ∷ []) else before n (rest (byte_in image n 0) (byte_in image n 1))) is

    -- the sector is the last one
    pub ends-there : (n : ℕ) (new : List ℕ) → length ns < 802 → sector_at image t s ≡ Some n
        → nat_eq (byte_in image n 0) 0 ≡ true → new ≡ ns ++ n ∷ [] → Some new ≡ whole
    ends-there n new few at last is =
        ap (λ (l : List ℕ). Some l) is
        ∙ sym (so_far ∙ ap (joined ns) (within-step image ns t s (Some n) few at ∙ on n true (chain_within image (801 - length ns)) last))

    -- others follow
    pub goes-on : (n : ℕ) (new : List ℕ) (t2 s2 : ℕ) → length ns < 802 → sector_at image t s ≡ Some n
        → nat_eq (byte_in image n 0) 0 ≡ false → new ≡ ns ++ n ∷ [] → t2 ≡ byte_in image n 0 → s2 ≡ byte_in image n 1
        → whole ≡ joined new (chain_within image (802 - length new) t2 s2)
    goes-on n new t2 s2 few at more is track sector =
        let one : length new ≡ length ns + 1 = omega (arith, ap length is, length-append ns (n ∷ [])) in
        let left : 801 - length ns ≡ 802 - length new = omega (arith, few, one) in
        so_far
        ∙ ap (joined ns) (within-step image ns t s (Some n) few at ∙ on n false (chain_within image (801 - length ns)) more)
        ∙ joined-one ns n (chain_within image (801 - length ns) (byte_in image n 0) (byte_in image n 1))
        ∙ ap (λ (l : List ℕ). joined l (chain_within image (801 - length ns) (byte_in image n 0) (byte_in image n 1))) (sym is)
        ∙ ap (λ (k : ℕ). joined new (chain_within image k (byte_in image n 0) (byte_in image n 1))) left
        ∙ ap (λ (a : ℕ). joined new (chain_within image (802 - length new) a (byte_in image n 1))) (sym track)
        ∙ ap (λ (b : ℕ). joined new (chain_within image (802 - length new) t2 b)) (sym sector)

-- what holds of each, and of one more
pub all-more : {X : Type 0} (P : X → Type 0) (xs new : List X) (x : X) → AllByRecursion P xs → P x → new ≡ xs ++ x ∷ []
    → AllByRecursion P new
all-more {X = X} P xs new x all here is = subst (AllByRecursion P) (sym is) (push xs all)
  where
    push : (ys : List X) → AllByRecursion P ys → AllByRecursion P (ys ++ x ∷ [])
    push [] none = (here, tt)
    push (y ∷ ys) both = (both.0, push ys both.1)
