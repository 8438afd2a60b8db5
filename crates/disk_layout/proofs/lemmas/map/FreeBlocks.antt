-- The count of free blocks, and what it says of the map.
use Rattle.std.proofs.Common.{List, ap, arith, inl, inr, refl, subst, sym, ℕ, ◌+◌, ◌-◌, ◌<◌, ◌∙◌, ◌≡◌, ◌≢◌, ◌≤◌}
use Rattle.std.proofs.lemmas.Bool.{cases_eq}
use Rattle.std.proofs.lemmas.Bool.Decides.{nat_tests}
use Rattle.std.proofs.lemmas.Nat.Bits.{bit_at-lt}
use Rattle.std.specs.Prelude.{slice_index, ◌%◌, ◌*◌, ◌/◌}
use Rattle.d64_image.proofs.Places.{track_fits, track_from_1}
use Rattle.d64_image.specs.Geometry.{sectors_on}
use Rattle.d64_image.specs.Images.{Sector}
use Rattle.d64_image.specs.declared.place.Place.{Place}
use Rattle.disk_layout.proofs.lemmas.lists.Sums.{sum-less, sum-zero}
use Rattle.disk_layout.proofs.lemmas.map.Maps.{in-bits}
use Rattle.disk_layout.specs.Map.{IsFree, IsFullDisk, IsMapOf, IsTaken, map_bit, map_count}
use Rattle.disk_layout.specs.View.{blocks_free, data_count}

-- a free sector is one of those that its track counts
pub taken-count : (old new : Sector) (ps : List Place) (p : Place) → IsMapOf old ps → IsFree old p → IsTaken old new p
    → map_count new p.track + 1 ≡ map_count old p.track
taken-count old new ps p map free take =
    let less = sum-less (map_bit old p.track) (map_bit new p.track) (sectors_on p.track) p.sector p.on_disk
    (free ∙ sym (ap (λ n. n + 1) take.bit))
    (λ k lt ne. sym (take.rest.bits p.track k (in-bits p.track k lt) (inr ne))) in
    omega (arith, less, map.counts p.track (track_from_1 p) (omega (arith, track_fits p)), take.count)

data-here : (bytes : Sector) (t : ℕ) → t ≢ 18 → data_count bytes t ≡ map_count bytes t
data-here bytes t ne = grind (arith, nat_tests)

data-same : (old new : Sector) (t : ℕ) → map_count new t ≡ map_count old t → data_count new t ≡ data_count old t
data-same old new t same = grind (arith, nat_tests)

-- a data block is taken: one block less is free
pub taken-block : (old new : Sector) (ps : List Place) (p : Place) → IsMapOf old ps → IsFree old p → p.track ≢ 18
    → IsTaken old new p → blocks_free new + 1 ≡ blocks_free old
unfolding blocks_free
taken-block old new ps p map free ne take =
    sym (sum-less (λ n. data_count old (n + 1)) (λ n. data_count new (n + 1)) 35 (p.track - 1)
    (omega (arith, track_fits p, track_from_1 p)) here there)
  where
    at : p.track - 1 + 1 ≡ p.track
    at = omega (arith, track_from_1 p)

    here : data_count old (p.track - 1 + 1) ≡ data_count new (p.track - 1 + 1) + 1
    here =
        let P : ℕ → Type 0 = λ t. data_count old t ≡ data_count new t + 1 in
        subst P (sym at) (data-here old p.track ne ∙ sym (taken-count old new ps p map free take)
        ∙ ap (λ n. n + 1) (sym (data-here new p.track ne)))

    there : (k : ℕ) → k < 35 → k ≢ p.track - 1 → data_count old (k + 1) ≡ data_count new (k + 1)
    there k lt other = sym (data-same old new (k + 1) (take.rest.counts (k + 1) (omega (arith, other, track_from_1 p))))

-- where none is free, no block is counted
pub full-none : (bytes : Sector) (ps : List Place) → IsMapOf bytes ps → IsFullDisk bytes → blocks_free bytes ≡ 0
unfolding blocks_free
full-none bytes ps map full = sum-zero (λ n. data_count bytes (n + 1)) 35 none
  where
    bit : (t s : ℕ) → t ≢ 18 → s < sectors_on t → map_bit bytes t s ≡ 0
    bit t s ne on =
        let p : Place = record { track = t; sector = s; on_disk = on } in
        let not : map_bit bytes t s ≢ 1 = full p ne in
        omega (arith, not, bit_at-lt (slice_index bytes (4 * t + 1 + s / 8)) (s % 8))

    count : (t : ℕ) → 1 ≤ t → t ≤ 35 → t ≢ 18 → map_count bytes t ≡ 0
    count t lo hi ne = map.counts t lo hi ∙ sum-zero (map_bit bytes t) (sectors_on t) (λ s on. bit t s ne on)

    none : (k : ℕ) → k < 35 → data_count bytes (k + 1) ≡ 0
    none k lt = elim (cases_eq (k + 1) 18) [
      | inl e ↦ let P : ℕ → Type 0 = λ t. data_count bytes t ≡ 0 in subst P (sym e) refl
      | inr ne ↦ data-here bytes (k + 1) ne ∙ count (k + 1) (omega arith) (omega (arith, lt)) ne
    ]
