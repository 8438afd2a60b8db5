-- How many sectors an image has, and that their bytes lie in the image.
use Rattle.std.proofs.Common.{◌≡◌, ◌<◌, ◌≤◌, ◌+◌, ◌*◌, ℕ, Bool, false, true, List, arith, length, refl}
use Rattle.std.specs.Prelude.{◌||◌, if◌then◌else◌, nat_eq}
use Rattle.std.proofs.lemmas.Bool.{eqb-true}
use Rattle.long_chains.specs.Sectors.{HasSector, sectors_in}

-- of one size or another one, there are as many; otherwise as many as this
either : (n a b count rest : ℕ) → 256 * count ≤ a → 256 * count ≤ b → 256 * rest ≤ n
    → 256 * (if nat_eq n a || nat_eq n b then count else rest) ≤ n
either n a b count rest one two others = by-first (nat_eq n a) refl
  where
    by-second : (y : Bool) → nat_eq n b ≡ y → 256 * (if y then count else rest) ≤ n
    by-second true is = omega (arith, eqb-true n b is, two)
    by-second false is = others

    by-first : (x : Bool) → nat_eq n a ≡ x → 256 * (if x || nat_eq n b then count else rest) ≤ n
    by-first true is = omega (arith, eqb-true n a is, one)
    by-first false is = by-second (nat_eq n b) refl

pub sectors-fit : (n : ℕ) → 256 * sectors_in n ≤ n
unfolding sectors_in
sectors-fit n =
    either n 174848 175531 683 _ (omega arith) (omega arith)
    (either n 196608 197376 768 _ (omega arith) (omega arith)
    (either n 205312 206114 802 0 (omega arith) (omega arith) (omega arith)))

pub sectors-few : (n : ℕ) → sectors_in n ≤ 802
unfolding sectors_in
sectors-few n = by-first (nat_eq n 174848 || nat_eq n 175531)
  where
    by-third : (x : Bool) → (if x then 802 else 0) ≤ 802
    by-third true = omega arith
    by-third false = omega arith

    by-second : (x : Bool) → (if x then 768 else (if nat_eq n 205312 || nat_eq n 206114 then 802 else 0)) ≤ 802
    by-second true = omega arith
    by-second false = by-third (nat_eq n 205312 || nat_eq n 206114)

    by-first : (x : Bool)
        → (if x then 683 else (if nat_eq n 196608 || nat_eq n 197376 then 768
        else (if nat_eq n 205312 || nat_eq n 206114 then 802 else 0))) ≤ 802
    by-first true = omega arith
    by-first false = by-second (nat_eq n 196608 || nat_eq n 197376)

-- the bytes of a sector that the image has lie in it
pub inside : (image : List ℕ) (n : ℕ) → HasSector image n → 256 * n + 256 ≤ length image
inside image n has = omega (arith, has, sectors-fit (length image))

pub few : (image : List ℕ) (n : ℕ) → HasSector image n → n < 802
few image n has = omega (arith, has, sectors-few (length image))
