-- A side sector with its exact bytes is as a sound image asks.
use Rattle.std.proofs.Common.{
  ◌≡◌,
  ℕ,
  zero,
  suc,
  ◌+◌,
  ◌-◌,
  ◌*◌,
  ◌<◌,
  ◌≤◌,
  List,
  [],
  ◌∷◌,
  ◌++◌,
  length,
  get_or,
  take,
  drop,
  refl,
  ◌∙◌,
  ap,
  arith,
  length-append,
}
use Rattle.std.specs.Prelude.{flat_map, slice_get, Some, None, Option, slice_range, replicate}
use Rattle.std.proofs.lemmas.List.{get_or-append_right, length-replicate, take_all}
use Rattle.std.proofs.Math.ListN.{get_or-append}
use Rattle.d64_image.specs.Images.{Image, sector}
use Rattle.d64_image.specs.declared.place.Place.{Place}
use Rattle.disk_layout.proofs.lemmas.lists.Listed.{length-place_bytes}
use Rattle.disk_layout.proofs.lemmas.lists.Lists.{get-drop, get-take}
use Rattle.disk_layout.specs.Chain.{Names}
use Rattle.disk_layout.specs.Layout.{File, IsSide, record_length}
use Rattle.disk_layout.specs.Side.{link_bytes, padded, place_bytes, pointers_of, side_sector}

-- bytes n and on of a list whose front has n bytes
behind : (xs ys : List ℕ) (n i : ℕ) → length xs ≡ n → get_or (xs ++ ys) (n + i) 0 ≡ get_or ys i 0
behind xs ys n i e = get_or-append_right xs ys n (n + i) 0 e (omega arith)
    ∙ ap (λ m. get_or ys m 0) (let s : (n + i) - n ≡ i = omega arith in s)

Names-behind : (xs ys : List ℕ) (n i : ℕ) (q : Place) → length xs ≡ n → Names ys i q → Names (xs ++ ys) (n + i) q
Names-behind xs ys n i q e h = (
  behind xs ys n i e ∙ h.0,
  ap (λ m. get_or (xs ++ ys) m 0) (let s : n + i + 1 ≡ n + (i + 1) = omega arith in s) ∙ behind xs ys n (i + 1) e ∙ h.1,
)

Names-before : (xs ys : List ℕ) (i : ℕ) (q : Place) → i + 1 < length xs → Names xs i q → Names (xs ++ ys) i q
Names-before xs ys i q lt h =
    let low : i < length xs = omega arith in
    (get_or-append xs ys 0 i low ∙ h.0, get_or-append xs ys 0 (i + 1) lt ∙ h.1)

pub get-lt : {X : Type 0} (xs : List X) (k : ℕ) (x : X) → slice_get xs k ≡ Some x → k < length xs
get-lt [] k x e = cc
get-lt (y ∷ xs) zero x e = omega arith
get-lt (y ∷ xs) (suc k) x e = omega (arith, get-lt xs k x e)

-- the k-th place of a list of places stands at byte 2k
places-at : (ps : List Place) (k : ℕ) (q : Place) → slice_get ps k ≡ Some q → Names (flat_map place_bytes ps) (2 * k) q
places-at [] k q e = cc
places-at (p ∷ ps) zero q e = let s : p ≡ q = cc in (ap (λ x. x.track) s, ap (λ x. x.sector) s)
places-at (p ∷ ps) (suc k) q e =
    let n : 2 * suc k ≡ 2 + 2 * k = omega arith in
    rw n (Names-behind (place_bytes p) (flat_map place_bytes ps) 2 (2 * k) q refl (places-at ps k q e))

padded-at : (n : ℕ) (ps : List Place) (k : ℕ) (q : Place) → slice_get ps k ≡ Some q
    → Names (padded n (flat_map place_bytes ps)) (2 * k) q
unfolding padded
padded-at n ps k q e = Names-before (flat_map place_bytes ps) _ (2 * k) q
    (omega (arith, get-lt ps k q e, length-place_bytes ps)) (places-at ps k q e)

length-padded : (n : ℕ) (xs : List ℕ) → length xs ≤ n → length (padded n xs) ≡ n
unfolding padded
length-padded n xs h = length-append xs (replicate (n - length xs) 0)
    ∙ omega (arith, length-replicate {A = ℕ} (n - length xs) 0)

length-link : (o : Option Place) (u : ℕ) → length (link_bytes o u) ≡ 2
length-link (Some q) u = refl
length-link None u = refl

-- part of a list
get-range : (ps : List Place) (a k n : ℕ) (q : Place) → k < n → slice_get ps (a + k) ≡ Some q
    → slice_get (slice_range ps a (a + n)) k ≡ Some q
get-range ps a k n q h e =
    let m : a + n - a ≡ n = omega arith in
    rw m (get-take (drop a ps) n k h ∙ get-drop ps a k ∙ e)

link-at : (o : Option Place) (u : ℕ) (q : Place) → o ≡ Some q → Names (link_bytes o u) 0 q
link-at (Some r) u q e = let s : r ≡ q = cc in (ap (λ x. x.track) s, ap (λ x. x.sector) s)
link-at None u q e = cc

-- a side sector of four parts
module _ (A B C D : List ℕ) (la : length A ≡ 2) (lb : length B ≡ 2) (lc : length C ≡ 12) where
  two : length (A ++ B) ≡ 4
  two = length-append A B ∙ omega arith

  three : length ((A ++ B) ++ C) ≡ 16
  three = length-append (A ++ B) C ∙ omega (arith, two)

  second : (i : ℕ) → i < 2 → get_or (((A ++ B) ++ C) ++ D) (2 + i) 0 ≡ get_or B i 0
  second i h = get_or-append ((A ++ B) ++ C) D 0 (2 + i) (omega (arith, three))
      ∙ get_or-append (A ++ B) C 0 (2 + i) (omega (arith, two)) ∙ behind A B 2 i la

  first-names : (q : Place) → Names A 0 q → Names (((A ++ B) ++ C) ++ D) 0 q
  first-names q h = Names-before ((A ++ B) ++ C) D 0 q (omega (arith, three))
      (Names-before (A ++ B) C 0 q (omega (arith, two)) (Names-before A B 0 q (omega (arith, la)) h))

  third-names : (i : ℕ) (q : Place) → i + 1 < 12 → Names C i q → Names (((A ++ B) ++ C) ++ D) (4 + i) q
  third-names i q lt h = Names-before ((A ++ B) ++ C) D (4 + i) q (omega (arith, three))
      (Names-behind (A ++ B) C 4 i q two h)

  fourth-names : (i : ℕ) (q : Place) → Names D i q → Names (((A ++ B) ++ C) ++ D) (16 + i) q
  fourth-names i q h = Names-behind ((A ++ B) ++ C) D 16 i q three h

-- a side sector with its exact bytes is as a sound image asks
pub exact-side : (img : Image) (f : File) (j : ℕ) (p : Place) → length f.sides ≤ 6
    → sector img p ≡ side_sector j f.blocks f.sides (record_length f.slot) → IsSide img f j p
unfolding side_sector
exact-side img f j p few e = record {
  number = rw e (second A B C D la refl lc 0 (omega arith));
  length_byte = rw e (second A B C D la refl lc 1 (omega arith));
  sides = λ k q at. rw e (third-names A B C D la refl lc (2 * k) q (omega (arith, get-lt f.sides k q at))
      (rw six (padded-at 12 f.sides k q at)));
  link = λ q at. rw e (first-names A B C D la refl lc q (link-at (slice_get f.sides (j + 1)) _ q at));
  pointers = λ k q h at. rw e (fourth-names A B C D la refl lc (2 * k) q (padded-at 240 (pointers_of j f.blocks) k q
      (get-range f.blocks (120 * j) k 120 q h at)));
}
  where
    six : take 6 f.sides ≡ f.sides
    six = take_all 6 f.sides few

    A : List ℕ
    A = link_bytes (slice_get f.sides (j + 1)) (15 + 2 * length (pointers_of j f.blocks))

    B : List ℕ
    B = j ∷ record_length f.slot ∷ []

    C : List ℕ
    C = padded 12 (flat_map place_bytes (take 6 f.sides))

    D : List ℕ
    D = padded 240 (flat_map place_bytes (pointers_of j f.blocks))

    la : length A ≡ 2
    la = length-link (slice_get f.sides (j + 1)) _

    lc : length C ≡ 12
    lc = rw six (length-padded 12 (flat_map place_bytes f.sides) (omega (arith, length-place_bytes f.sides)))
