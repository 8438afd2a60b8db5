-- The next place has the next index.
use Rattle.std.proofs.Common.{ℕ, ◌≡◌, ◌+◌, ◌<◌, ◌≤◌, ◌∙◌, Some, None, refl, ap, sym, add-one, arith}
use Rattle.std.proofs.Math.Decide.{dec_lt}
use Rattle.std.proofs.lemmas.Bool.Decides.{nat_tests}
use Rattle.d64_image.specs.declared.place.Place.{Place}
use Rattle.d64_image.specs.Geometry.{sectors_on, sectors_below}
use Rattle.d64_image.specs.Places.{index_of, place_at}
use Rattle.d64_image.proofs.Places.{index_below, index_last, index_low, place_at-found, place_at-some, track_fits}
use Rattle.d64_image.proofs.Places.{track_from_1}
use Rattle.benchmarks.specs.Walks.{next_index}

one_more : (m n : ℕ) → m ≡ n + 1 → m < 683 → m ≡ next_index n
one_more m n more below = grind (arith, nat_tests)

index_parts : (p : Place) → index_of p ≡ sectors_below p.track + p.sector
unfolding index_of
index_parts p = refl

-- the next sector of the track
pub on_track : (p q : Place) → Some q ≡ place_at p.track (p.sector + 1) → index_of q ≡ next_index (index_of p)
on_track p q found =
    let at = place_at-some p.track (p.sector + 1) q (sym found) in
    one_more (index_of q) (index_of p) (omega (arith, index_parts p, index_parts q, ap sectors_below at.0, at.1))
    (index_below q)

-- a place that the disk hasn't is past the track's end
past_end : (t s : ℕ) → None ≡ place_at t s → sectors_on t ≤ s
past_end t s missing = elim (dec_lt s (sectors_on t)) [
  | yes here ↦ let found = place_at-found t s here in let e = missing ∙ found.1 in absurd (cc)
  | no there ↦ omega (arith, there)
]

below_next : (t : ℕ) → sectors_below (t + 1) ≡ sectors_below t + sectors_on t
unfolding sectors_below
below_next t = rw add-one refl

-- the first sector of the next track
pub next_track : (p q : Place) → None ≡ place_at p.track (p.sector + 1) → Some q ≡ place_at (p.track + 1) 0
    → index_of q ≡ next_index (index_of p)
next_track p q last found =
    let at = place_at-some (p.track + 1) 0 q (sym found) in
    let end : sectors_on p.track ≡ p.sector + 1 = omega (arith, past_end p.track (p.sector + 1) last, p.on_disk) in
    let below : sectors_below q.track ≡ sectors_below p.track + sectors_on p.track = ap sectors_below at.0
    ∙ below_next p.track in
    one_more (index_of q) (index_of p) (omega (arith, index_parts p, index_parts q, below, end, at.1)) (index_below q)

last_track : (t s : ℕ) → 0 < t → t < 36 → sectors_on (t + 1) ≤ 0 → s < sectors_on t → sectors_on t ≤ s + 1
    → (t ≡ 35) × (s ≡ 16)
last_track t s from to none here end = (grind (arith, nat_tests), grind (arith, nat_tests))

-- the first place after the last
pub first_again : (p q : Place) → None ≡ place_at p.track (p.sector + 1) → None ≡ place_at (p.track + 1) 0
    → q.track ≡ 1 → q.sector ≡ 0 → index_of q ≡ next_index (index_of p)
first_again p q last none track sector =
    let at = last_track p.track p.sector (track_from_1 p) (track_fits p) (past_end (p.track + 1) 0 none) p.on_disk
    (past_end p.track (p.sector + 1) last) in
    let start : index_of q ≡ 0 = omega (arith, index_low q (omega (arith, track)), track, sector) in
    let end : index_of p ≡ 682 = omega (arith, index_last p (omega (arith, at.0)), at.0, at.1) in
    start ∙ sym (ap next_index end)
