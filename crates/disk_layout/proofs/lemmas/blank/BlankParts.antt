-- The parts of a blank image: its map, its chains and its empty records.
use Rattle.std.proofs.Common.{List, [], ap, arith, inl, inr, length, lit<, refl}
use Rattle.std.proofs.Common.{sum_by, sym, take, zero, suc, ℕ, ◌*◌, ◌+◌, ◌-◌, ◌<◌, ◌∙◌, ◌∷◌, ◌++◌, ◌≡◌, ◌≤◌}
use Rattle.std.proofs.Common.{◌⊎◌}
use Rattle.std.proofs.lemmas.Bool.{cases_lt}
use Rattle.std.proofs.lemmas.Bool.Decides.{nat_tests}
use Rattle.std.proofs.lemmas.List.{get_or-take}
use Rattle.std.proofs.lemmas.List.Sums.{sum_by-cons}
use Rattle.std.specs.Prelude.{Contains, Some, if◌then◌else◌, nat_le, nat_lt, replicate, slice_get}
use Rattle.std.specs.Prelude.{slice_index, ◌&&◌, ◌%◌, ◌/◌}
use Rattle.d64_image.proofs.Places.{track_fits, track_from_1, few_sectors}
use Rattle.d64_image.specs.Geometry.{sectors_on}
use Rattle.d64_image.specs.Images.{Image, IsImage, Sector, sector}
use Rattle.d64_image.specs.declared.place.Place.{Place}
use Rattle.disk_layout.proofs.lemmas.blank.BlankPlaces.{blank_owners, owned-taken}
use Rattle.disk_layout.proofs.lemmas.blank.BlankPlaces.{taken-owned}
use Rattle.disk_layout.proofs.lemmas.lists.Lists.{get-some}
use Rattle.disk_layout.proofs.lemmas.records.Fillers.{pieces-fill}
use Rattle.disk_layout.proofs.lemmas.records.Joined.{joined-at, length-joined}
use Rattle.disk_layout.specs.Blank.{AreRequestPlaces, IsBlankMap}
use Rattle.disk_layout.specs.Blank.{taken_on}
use Rattle.disk_layout.specs.Chain.{EndsAt, Leads, byte}
use Rattle.disk_layout.specs.Directory.{map_place}
use Rattle.disk_layout.specs.Map.{IsFree, IsMapOf, map_bit, numbers_below}
use Rattle.disk_layout.specs.Records.{empty_record, filler, joined, pieces}
use Rattle.disk_layout.specs.Side.{link_bytes}

-- the bit of sector s where a track has b sectors, and the first a of them are taken
abbrev mark : ℕ → ℕ → ℕ → ℕ
mark a b s = if (nat_le a s && nat_lt s b) then 1 else 0

abbrev from : ℕ → ℕ → ℕ
from a s = if nat_le a s then 1 else 0

-- how many sectors are free
sum-from : (f : ℕ → ℕ) (a m : ℕ) → ((s : ℕ) → s < m → f s ≡ mark a m s) → sum_by f (numbers_below m) ≡ m - a
sum-from f a m h = sums m (λ s lt. h s lt ∙ inside s lt)
  where
    inside : (s : ℕ) → s < m → mark a m s ≡ from a s
    inside s lt = grind (arith, nat_tests)

    next : (n : ℕ) → from a n + (n - a) ≡ suc n - a
    next n = grind (arith, nat_tests)

    sums : (n : ℕ) → ((s : ℕ) → s < n → f s ≡ from a s) → sum_by f (numbers_below n) ≡ n - a
    sums zero e = omega arith
    sums (suc n) e =
        let rest = sums n (λ s lt. e s (omega arith)) in
        let here = e n (omega arith) in
        sum_by-cons f n (numbers_below n) ∙ (omega (arith, rest, here, next n))

-- the map of the blank image is that of what is owned
pub map-is : (bytes : Sector) (name id : List ℕ) (blocks : List Place) (n : ℕ) → 1 ≤ n → AreRequestPlaces blocks n
    → IsBlankMap bytes name id n → IsMapOf bytes (map_place ∷ blank_owners blocks)
map-is bytes name id blocks n some are map = record {
  marked = λ p. (
    λ free c. no-bit p (owned-taken blocks n are some p c) free,
    λ out. bit p (cases_lt p.sector (taken_on n p.track)) out,
  );
  counts = λ t lo hi. map.counts t lo hi
      ∙ sym (sum-from (map_bit bytes t) (taken_on n t) (sectors_on t)
      (λ s lt. map.bits t s lo hi (omega (arith, lt, few_sectors t))));
}
  where
    at : (p : Place) → map_bit bytes p.track p.sector ≡ mark (taken_on n p.track) (sectors_on p.track) p.sector
    at p = map.bits p.track p.sector (track_from_1 p) (omega (arith, track_fits p))
        (omega (arith, p.on_disk, few_sectors p.track))

    zero-there : (a b s : ℕ) → s < a → mark a b s ≡ 0
    zero-there a b s lt = grind (arith, nat_tests)

    one-there : (a b s : ℕ) → a ≤ s → s < b → mark a b s ≡ 1
    one-there a b s le lt = grind (arith, nat_tests)

    no-bit : (p : Place) → p.sector < taken_on n p.track → ¬ (IsFree bytes p)
    no-bit p lt free = let z = sym free ∙ at p ∙ zero-there (taken_on n p.track) (sectors_on p.track) p.sector lt in
        omega (arith, z)

    bit : (p : Place) → (p.sector < taken_on n p.track) ⊎ (taken_on n p.track ≤ p.sector)
        → ¬ (Contains (map_place ∷ blank_owners blocks) p) → IsFree bytes p
    bit p (inl lt) out = absurd (out (taken-owned blocks n are some p lt))
    bit p (inr le) out = at p ∙ one-there (taken_on n p.track) (sectors_on p.track) p.sector le p.on_disk

-- the two bytes of a link
pub two-bytes : (bytes : List ℕ) (a b : ℕ) → take 2 bytes ≡ a ∷ b ∷ [] → (slice_index bytes 0 ≡ a)
    × (slice_index bytes 1 ≡ b)
two-bytes bytes a b e = (
  sym (get_or-take 2 bytes 0 0 (lit< tt)) ∙ ap (λ xs. slice_index xs 0) e,
  sym (get_or-take 2 bytes 1 0 (lit< tt)) ∙ ap (λ xs. slice_index xs 1) e,
)

-- blocks that link one to the next
pub record Linked (img : Image) (p : Place) (ps : List Place) (u : ℕ) : Type 0 where
  pub front : List Place
  pub last : Place
  pub places : ps ≡ front ++ last ∷ []
  pub leads : Leads img p front last
  pub ends : EndsAt img last u

pub linked : (img : Image) (u : ℕ) (p : Place) (ps : List Place) → ((k : ℕ) (q : Place) → slice_get (p ∷ ps) k ≡ Some q
    → take 2 (sector img q) ≡ link_bytes (slice_get ps k) u) → Linked img p (p ∷ ps) u
linked img u p [] h = record {
  front = [];
  last = p;
  places = refl;
  leads = refl;
  ends = two-bytes (sector img p) 0 u (h 0 p refl);
}
linked img u p (q ∷ ps) h =
    let rest = linked img u q ps (λ k r g. h (suc k) r g) in
    record {
      front = p ∷ rest.front;
      last = rest.last;
      places = ap (λ xs. p ∷ xs) rest.places;
      leads = (q, refl, two-bytes (sector img p) q.track q.sector (h 0 p refl), rest.leads);
      ends = rest.ends;
    }

-- the pieces of blocks that hold the filler alone
pub empty-pieces : (L m : ℕ) (img : Image) (ps : List Place) → IsImage img → 0 < L → m * L ≤ 254 * length ps
    → ((k j : ℕ) (p : Place) → slice_get ps k ≡ Some p → j < 254 → byte img p (2 + j) ≡ filler L m (254 * k + j))
    → pieces L m (joined img ps) ≡ replicate m (empty_record L)
empty-pieces L m img ps w pos fit filled =
    let z : 0 + m ≡ m = omega arith in
    let n : 0 * L ≡ 0 = omega arith in
    let all = pieces-fill L 0 m [] (joined img ps) pos (omega (arith, n)) (rw (z, length-joined img ps w) fit)
    (λ i lt. absurd (omega (arith, n, lt))) (λ i lo lt. rw z (each i (rw z at lt))) in
    rw z at all
  where
    each : (i : ℕ) → i < m * L → slice_index (joined img ps) i ≡ filler L m i
    each i lt =
        let (p, g) = get-some ps (i / 254) (omega (arith, lt, fit)) in
        let e : 254 * (i / 254) + i % 254 ≡ i = omega arith in
        ap (λ x. slice_index (joined img ps) x) (sym e)
        ∙ joined-at img ps (i / 254) (i % 254) p w g (omega arith)
        ∙ filled (i / 254) (i % 254) p g (omega arith)
        ∙ ap (filler L m) e

-- a block of two records begins with a record
pub same-filler : (n k j : ℕ) → k < n → j < 254 → filler 127 2 j ≡ filler 127 (2 * n) (254 * k + j)
same-filler n k j lt small =
    let m : (254 * k + j) % 127 ≡ j % 127 = omega arith in
    let in-all : 254 * k + j < 2 * n * 127 = omega arith in
    let in-block : j < 2 * 127 = omega arith in
    rw m (grind (arith, nat_tests))
