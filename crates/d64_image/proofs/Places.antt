-- The places of the disk, in their order.
use Rattle.std.proofs.Common.{
  ℕ,
  zero,
  suc,
  ◌+◌,
  ◌-◌,
  ◌*◌,
  ◌<◌,
  ◌≤◌,
  ◌≡◌,
  ◌≢◌,
  ◌⊎◌,
  Some,
  None,
  ap,
  ap₂,
  sym,
  subst,
  refl,
  inl,
  inr,
  ⊎_elim,
  add-suc,
  add-zero,
  mul-suc,
  mul-zero,
  le_refl,
  le_of_suc-le-suc,
  lit≤,
  arith,
}
use Rattle.std.proofs.lemmas.Bool.{cases_eq, cases_lt, cases_order}
use Rattle.std.proofs.lemmas.Bool.Decides.{nat_tests}
use Rattle.std.proofs.Math.Decide.{dec_lt}
use Rattle.std.proofs.Math.Nat.{eq-or-lt_of_le}
use Rattle.std.specs.Coded.{le_prop}
use Rattle.d64_image.specs.declared.place.Place.{Place}
use Rattle.d64_image.specs.Geometry.{sectors_on, sectors_below}
use Rattle.d64_image.specs.Places.{track_of, sector_of, index_of, place_if, place_at}

-- no track has more sectors than the outermost
pub few_sectors : (t : ℕ) → sectors_on t ≤ 21
few_sectors t = grind (arith, nat_tests)

-- the zones, one after another
on_none : (t : ℕ) → t < 1 → sectors_on t ≡ 0
on_none t below = grind (arith, nat_tests)

on_low : (t : ℕ) → 1 ≤ t → t < 18 → sectors_on t ≡ 21
on_low t above below = grind (arith, nat_tests)

on_last : (t : ℕ) → 31 ≤ t → t < 36 → sectors_on t ≡ 17
on_last t above below = grind (arith, nat_tests)

on_no_more : (t : ℕ) → 36 ≤ t → sectors_on t ≡ 0
on_no_more t above = grind (arith, nat_tests)

-- the sectors below a track past others that have so many each
pub below_zone : (first n each : ℕ) → ((t : ℕ) → first ≤ t → t < first + n → sectors_on t ≡ each)
    → sectors_below (first + n) ≡ sectors_below first + each * n
unfolding sectors_below
below_zone first zero each have = rw (add-zero first, mul-zero each, add-zero (sectors_below first)) refl
below_zone first (suc n) each have =
    let so_far = below_zone first n each (λ t above below. have t above (omega (arith, below))) in
    let this = have (first + n) (omega arith) (omega arith) in
    rw (add-suc, mul-suc each n) (omega (arith, so_far, this))

-- the sectors below a track, zone by zone
pub zones_start : (sectors_below 1 ≡ 0) × (sectors_below 18 ≡ 357) × (sectors_below 25 ≡ 490) × (sectors_below 31 ≡ 598)
unfolding sectors_below
zones_start = (refl, refl, refl, refl)

pub at_low : (t : ℕ) → 1 ≤ t → t ≤ 18 → sectors_below t ≡ 21 * (t - 1)
at_low t above below =
    let at : 1 + (t - 1) ≡ t = omega arith in
    let zone = below_zone 1 (t - 1) 21 (λ u from to. on_low u from (omega (arith, to, below))) in
    omega (arith, ap sectors_below at, zone, zones_start.0)

pub at_last : (t : ℕ) → 31 ≤ t → t ≤ 36 → sectors_below t ≡ 598 + 17 * (t - 31)
at_last t above below =
    let at : 31 + (t - 31) ≡ t = omega arith in
    let zone = below_zone 31 (t - 31) 17 (λ u from to. on_last u from (omega (arith, to, below))) in
    omega (arith, ap sectors_below at, zone, zones_start.3)

-- a track has its sectors before those of each later track
pub below_grows : (t u : ℕ) → t < u → sectors_below t + sectors_on t ≤ sectors_below u
unfolding sectors_below
below_grows t zero lt = absurd (omega (arith, lt))
below_grows t (suc u) lt = ⊎_elim
    (λ (e : t ≡ u). subst (λ (v : ℕ). sectors_below t + sectors_on t ≤ sectors_below v + sectors_on v) e
    (le_refl (sectors_below t + sectors_on t)))
    (λ (less : t < u). omega (arith, below_grows t u less))
    (eq-or-lt_of_le (le_of_suc-le-suc lt))

pub sectors_below-36 : sectors_below 36 ≡ 683
sectors_below-36 = at_last 36 (lit≤ tt) (lit≤ tt)

pub track_fits : (p : Place) → p.track < 36
track_fits p = ⊎_elim
    (λ (fits : p.track < 36). fits)
    (λ (past : 36 ≤ p.track). absurd (omega (arith, p.on_disk, on_no_more p.track past)))
    (cases_lt p.track 36)

pub track_from_1 : (p : Place) → 0 < p.track
track_from_1 p = ⊎_elim
    (λ (below : p.track < 1). absurd (omega (arith, p.on_disk, on_none p.track below)))
    (λ (from : 1 ≤ p.track). from)
    (cases_lt p.track 1)

pub sector_small : (p : Place) → p.sector < 21
sector_small p = omega (arith, p.on_disk, few_sectors p.track)

pub index_parts : (p : Place) → index_of p ≡ sectors_below p.track + p.sector
unfolding index_of
index_parts p = refl

pub index_below : (p : Place) → index_of p < 683
unfolding index_of
index_below p = omega (arith, p.on_disk, below_grows p.track 36 (track_fits p), sectors_below-36)

-- the index in closed form, zone by zone
pub index_low : (p : Place) → p.track < 18 → index_of p ≡ 21 * p.track - 21 + p.sector
unfolding index_of
index_low p below = let from = track_from_1 p in omega (arith, from, at_low p.track from (omega (arith, below)))

pub index_last : (p : Place) → 31 ≤ p.track → index_of p ≡ 17 * p.track + 71 + p.sector
unfolding index_of
index_last p above = omega (arith, above, at_last p.track above (omega (arith, track_fits p)))

-- `place_at` finds each place, and nothing else
pub place_at-self : (p : Place) → place_at p.track p.sector ≡ Some p
unfolding place_at
place_at-self p = elim (dec_lt p.sector (sectors_on p.track)) as (λ d. place_if p.track p.sector d ≡ Some p) [
  | yes h ↦ ap (λ (on : p.sector < sectors_on p.track). place_if p.track p.sector (yes on)) (le_prop h p.on_disk)
  | no not_on ↦ absurd (not_on p.on_disk)
]

pub place_at-none : (t s : ℕ) → sectors_on t ≤ s → place_at t s ≡ None
unfolding place_at
place_at-none t s past = elim (dec_lt s (sectors_on t)) as (λ d. place_if t s d ≡ None) [
  | yes h ↦ absurd (omega (arith, h, past))
  | no _ ↦ refl
]

pub place_at-found : (t s : ℕ) → s < sectors_on t → (p : Place) × (place_at t s ≡ Some p)
place_at-found t s on =
    let p : Place = record { track = t; sector = s; on_disk = on } in
    (p, place_at-self p)

pub place_at-some : (t s : ℕ) (p : Place) → place_at t s ≡ Some p → (p.track ≡ t) × (p.sector ≡ s)
place_at-some t s p found = ⊎_elim
    (λ (on : s < sectors_on t).
    let q : Place = record { track = t; sector = s; on_disk = on } in
    let at : place_at t s ≡ Some q = place_at-self q in
    let same : q ≡ p = cc in
    (sym (ap track_of same), sym (ap sector_of same)))
    (λ (past : sectors_on t ≤ s).
    let none : place_at t s ≡ None = place_at-none t s past in
    absurd (cc))
    (cases_lt s (sectors_on t))

-- two places are one where their tracks and their sectors are
pub same_place : (p q : Place) → p.track ≡ q.track → p.sector ≡ q.sector → p ≡ q
same_place p q track sector =
    let at_p = place_at-self p in
    let at_q = place_at-self q in
    let at : place_at p.track p.sector ≡ place_at q.track q.sector = ap₂ place_at track sector in
    cc

-- and where their indices are
pub same_index : (p q : Place) → index_of p ≡ index_of q → p ≡ q
unfolding index_of
same_index p q e = ⊎_elim
    (λ (same : p.track ≡ q.track). same_place p q same (omega (arith, e, ap sectors_below same)))
    (⊎_elim
    (λ (less : p.track < q.track). absurd (omega (arith, e, p.on_disk, below_grows p.track q.track less)))
    (λ (more : q.track < p.track). absurd (omega (arith, e, q.on_disk, below_grows q.track p.track more))))
    (cases_order p.track q.track)

pub other_index : (p q : Place) → p ≢ q → index_of p ≢ index_of q
other_index p q other = λ e. other (same_index p q e)

pub same_or_other : (p q : Place) → (p ≡ q) ⊎ (p ≢ q)
same_or_other p q = ⊎_elim
    (λ (e : index_of p ≡ index_of q). inl (same_index p q e))
    (λ (ne : index_of p ≢ index_of q). inr (λ e. ne (ap index_of e)))
    (cases_eq (index_of p) (index_of q))

-- each number below the count of sectors up to a track is the index of a place
place_below : (t n : ℕ) → n < sectors_below t → (p : Place) × (index_of p ≡ n)
unfolding sectors_below index_of
place_below zero n lt = absurd (omega (arith, lt))
place_below (suc t) n lt = ⊎_elim
    (λ (below : n < sectors_below t). place_below t n below)
    (λ (here : sectors_below t ≤ n).
    (record { track = t; sector = n - sectors_below t; on_disk = omega (arith, here, lt) }, omega (arith, here)))
    (cases_lt n (sectors_below t))

pub place_of : (n : ℕ) → n < 683 → (p : Place) × (index_of p ≡ n)
place_of n below = place_below 36 n (omega (arith, below, sectors_below-36))
