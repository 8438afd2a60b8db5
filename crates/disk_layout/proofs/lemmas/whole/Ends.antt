-- Where the exact bytes of a file's last side sector end.
use Rattle.std.proofs.Common.{◌≡◌, ℕ, zero, suc, ◌+◌, ◌-◌, ◌*◌, ◌/◌, ◌≤◌, List, [], ◌∷◌, ◌++◌, length, get_or, take, drop}
use Rattle.std.proofs.Common.{refl, sym, ◌∙◌, ap, append_assoc, arith, length-append}
use Rattle.std.specs.Prelude.{None, Option, Some, flat_map, replicate, slice_get, slice_index}
use Rattle.std.proofs.lemmas.List.{get_or-append_right, length-drop, length-replicate, length-take}
use Rattle.d64_image.proofs.Places.{place_at-none}
use Rattle.d64_image.specs.Images.{Sector}
use Rattle.d64_image.specs.Places.{place_at}
use Rattle.d64_image.specs.declared.place.Place.{Place}
use Rattle.disk_layout.proofs.lemmas.lists.Listed.{length-place_bytes}
use Rattle.disk_layout.specs.Chain.{named_at}
use Rattle.disk_layout.specs.Layout.{sides_for}
use Rattle.disk_layout.specs.Side.{link_bytes, padded, place_bytes, pointers_of, side_sector}
use Rattle.disk_layout.specs.Listed.{EndsBy, used_of}

-- track 0 has no sector
pub none-at : (bytes : Sector) (i : ℕ) → slice_index bytes i ≡ 0 → named_at bytes i ≡ None
none-at bytes i e = ap (λ t. place_at t (slice_index bytes (i + 1))) e
    ∙ place_at-none 0 (slice_index bytes (i + 1)) (omega arith)

-- bytes n and on of a list whose front has n bytes
behind : (xs ys : List ℕ) (n i : ℕ) → length xs ≡ n → get_or (xs ++ ys) (n + i) 0 ≡ get_or ys i 0
behind xs ys n i e = get_or-append_right xs ys n (n + i) 0 e (omega arith)
    ∙ ap (λ m. get_or ys m 0) (let s : (n + i) - n ≡ i = omega arith in s)

pub zeros-at : (n i : ℕ) → get_or (replicate {A = ℕ} n 0) i 0 ≡ 0
zeros-at zero i = refl
zeros-at (suc n) zero = refl
zeros-at (suc n) (suc i) = zeros-at n i

-- past its bytes a padded list is zero
padded-past : (n i : ℕ) (xs : List ℕ) → length xs ≤ i → get_or (padded n xs) i 0 ≡ 0
unfolding padded
padded-past n i xs le =
    let e : length xs + (i - length xs) ≡ i = omega (arith, le) in
    ap (λ k. get_or (xs ++ replicate (n - length xs) 0) k 0) (sym e)
    ∙ behind xs (replicate (n - length xs) 0) (length xs) (i - length xs) refl
    ∙ zeros-at (n - length xs) (i - length xs)

length-link : (o : Option Place) (u : ℕ) → length (link_bytes o u) ≡ 2
length-link (Some q) u = refl
length-link None u = refl

length-padded : (n : ℕ) (xs : List ℕ) → length xs ≤ n → length (padded n xs) ≡ n
unfolding padded
length-padded n xs h = length-append xs (replicate (n - length xs) 0)
    ∙ omega (arith, length-replicate {A = ℕ} (n - length xs) 0)

link-none : (o : Option Place) (u : ℕ) (ys : List ℕ) → o ≡ None → get_or (link_bytes o u ++ ys) 0 0 ≡ 0
link-none (Some q) u ys e = cc
link-none None u ys e = refl

pub get-none : {X : Type 0} (xs : List X) (k : ℕ) → length xs ≤ k → slice_get xs k ≡ None
get-none [] k le = refl
get-none (x ∷ xs) zero le = absurd (omega (arith, le))
get-none (x ∷ xs) (suc k) le = get-none xs k (omega (arith, le))

-- so many data blocks has the last side sector
pub length-pointers : (blocks : List Place) → 1 ≤ length blocks
    → length (pointers_of ((length blocks - 1) / 120) blocks) ≡ used_of (length blocks)
length-pointers blocks some =
    length-take _ (drop (120 * ((length blocks - 1) / 120)) blocks)
    ∙ omega (arith, some, length-drop (120 * ((length blocks - 1) / 120)) blocks)

-- the exact bytes of the last side sector list the blocks of the chain and no more
pub ends-exact : (blocks sides : List Place) (L : ℕ) → 1 ≤ length blocks → length sides ≡ sides_for (length blocks)
    → EndsBy (side_sector ((length blocks - 1) / 120) blocks sides L) (used_of (length blocks))
unfolding side_sector
ends-exact blocks sides L some count = record {
  link = none-at whole 0 (ap (λ (xs : List ℕ). get_or xs 0 0) parts ∙ link-none (slice_get sides (j + 1)) u ((B ++ C) ++ D)
      (get-none sides (j + 1) (omega (arith, some, count))));
  pointers = λ k le lt. none-at whole (16 + 2 * k) (behind ((A ++ B) ++ C) D 16 (2 * k) three
      ∙ padded-past 240 (2 * k) (flat_map place_bytes (pointers_of j blocks))
      (omega (arith, le, length-place_bytes (pointers_of j blocks), length-pointers blocks some)));
}
  where
    j : ℕ
    j = (length blocks - 1) / 120

    u : ℕ
    u = 15 + 2 * length (pointers_of j blocks)

    A : List ℕ
    A = link_bytes (slice_get sides (j + 1)) u

    B : List ℕ
    B = j ∷ L ∷ []

    C : List ℕ
    C = padded 12 (flat_map place_bytes (take 6 sides))

    D : List ℕ
    D = padded 240 (flat_map place_bytes (pointers_of j blocks))

    lc : length C ≡ 12
    lc = length-padded 12 (flat_map place_bytes (take 6 sides))
        (omega (arith, length-place_bytes (take 6 sides), length-take 6 sides))

    three : length ((A ++ B) ++ C) ≡ 16
    three = length-append (A ++ B) C ∙ omega (arith, length-append A B, length-link (slice_get sides (j + 1)) u, lc)

    whole : Sector
    whole = ((A ++ B) ++ C) ++ D

    parts : whole ≡ A ++ ((B ++ C) ++ D)
    parts = simp append_assoc
