-- On a clean image the free sectors outside track 18 and those that files own there are 664 together.
use Rattle.std.proofs.Common.{Bool, List, [], append-nil, ap, length-append, arith, cond, false, inl, inr}
use Rattle.std.proofs.Common.{length, refl}
use Rattle.std.proofs.Common.{sym, true, ℕ, ◌++◌, ◌+◌, ◌-◌, ◌∙◌, ◌∷◌, ◌≡◌, ◌≢◌, ◌≤◌, ◌⊎◌}
use Rattle.std.proofs.lemmas.Bool.{cases_eq}
use Rattle.std.proofs.lemmas.Bool.Decides.{nat_tests}
use Rattle.std.proofs.lemmas.Grind.{flat_map-append}
use Rattle.std.proofs.lemmas.List.Elements.{filter-append}
use Rattle.std.proofs.lemmas.List.Filters.{length-filter_both}
use Rattle.std.proofs.lemmas.Nat.Bits.{bit_at-lt}
use Rattle.std.specs.List.{AllByRecursion}
use Rattle.std.specs.Prelude.{Contains, Some, filter, flat_map, nat_eq, not, slice_get, slice_index, ◌%◌}
use Rattle.std.specs.Prelude.{◌*◌, ◌/◌}
use Rattle.d64_image.proofs.Places.{same_or_other}
use Rattle.d64_image.specs.Images.{Image, Sector, sector}
use Rattle.d64_image.specs.declared.place.Place.{Place}
use Rattle.disk_layout.proofs.lemmas.kept.Others.{others-around}
use Rattle.disk_layout.proofs.lemmas.lists.Lists.{split-get}
use Rattle.disk_layout.proofs.lemmas.lists.Once.{Contains-cases, Contains-here, Contains-nil, Contains-there}
use Rattle.disk_layout.proofs.lemmas.lists.Sums.{sum-same}
use Rattle.disk_layout.specs.Chain.{EachOnce}
use Rattle.disk_layout.specs.Clean.{IsCleanLayout}
use Rattle.disk_layout.specs.Directory.{map_place}
use Rattle.disk_layout.specs.Layout.{File, Layout, file_owns, owners, sides_for}
use Rattle.disk_layout.specs.Map.{IsMapOf, map_bit}
use Rattle.disk_layout.specs.Room.{Fits}
use Rattle.disk_layout.specs.Rest.{others, taken_by_others}
use Rattle.disk_layout.specs.View.{blocks_free}
use Rattle.disk_layout.proofs.lemmas.map.OverTracks.{at, at-here, at-other, at-track, off-18}
use Rattle.disk_layout.proofs.lemmas.map.OverTracks.{over, over-all, over-at, over-none, over-plus, over-same}

-- how often a sector is among these
unfoldable hits : List Place → ℕ → ℕ → ℕ
hits [] t s = 0
hits (p ∷ ps) t s = at p t s + hits ps t s

abbrev outside : Place → Bool
outside p = not (nat_eq p.track 18)

over-hits : (ps : List Place) → over 35 (hits ps) ≡ length (filter outside ps)
unfolding hits
over-hits [] = over-none 35 (λ t s. 0) (λ t s ne. refl)
over-hits (p ∷ ps) = over-plus 35 (at p) (hits ps) ∙ step (over-hits ps)
  where
    step : over 35 (hits ps) ≡ length (filter outside ps)
        → over 35 (at p) + over 35 (hits ps) ≡ length (cond (outside p) (p ∷ filter outside ps) (filter outside ps))
    step rest = elim (cases_eq p.track 18) [
      | inl e ↦
          let none : over 35 (at p) ≡ 0 = over-none 35 (at p) (λ t s ne. at-track p t s (λ is. ne (is ∙ e))) in
          let out : outside p ≡ false = grind (arith, nat_tests) in
          rw out (omega (arith, none, rest))
      | inr ne ↦
          let one : over 35 (at p) ≡ 1 = over-at p ne in
          let out : outside p ≡ true = grind (arith, nat_tests) in
          rw out (omega (arith, one, rest))
    ]

-- distinct sectors: each of them is hit once, and no other
hits-none : (q : Place) (ps : List Place) → ¬ (Contains ps q) → hits ps q.track q.sector ≡ 0
unfolding hits
hits-none q [] out = refl
hits-none q (p ∷ ps) out =
    let rest = hits-none q ps (λ c. out (Contains-there q p ps c)) in
    let here = at-other p q (λ e. out (rw e (Contains-here q ps))) in
    omega (arith, here, rest)

hits-one : (q : Place) (ps : List Place) → EachOnce ps → (Contains ps q × (hits ps q.track q.sector ≡ 1))
    ⊎ ¬ (Contains ps q)
unfolding hits
hits-one q [] once = inr (λ c. Contains-nil q c)
hits-one q (p ∷ ps) once = elim (same_or_other p q) [
  | inl e ↦
      let here : at p q.track q.sector ≡ 1 = rw e (at-here q) in
      let rest = hits-none q ps (λ d. once.0 (rw e d)) in
      inl (rw e (Contains-here q ps), omega (arith, here, rest))
  | inr ne ↦ elim (hits-one q ps once.1) [
    | inl d ↦ let here = at-other p q ne in let rest = d.1 in inl (Contains-there q p ps d.0, omega (arith, here, rest))
    | inr out ↦ inr (λ c. elim (Contains-cases q p ps c) [ inl e ↦ ne e | inr d ↦ out d ])
  ]
]

-- each sector is free, or one of those on which the map is
free-or_hit : (bytes : Sector) (ps : List Place) (q : Place) → IsMapOf bytes ps → EachOnce ps
    → map_bit bytes q.track q.sector + hits ps q.track q.sector ≡ 1
free-or_hit bytes ps q map once = elim (hits-one q ps once) [
  | inl own ↦
      let taken : map_bit bytes q.track q.sector ≢ 1 = λ e. (map.marked q).0 e own.0 in
      let one = own.1 in
      omega (arith, taken, one, bit_at-lt (slice_index bytes (4 * q.track + 1 + q.sector / 8)) (q.sector % 8))
  | inr out ↦ let free = (map.marked q).1 out in let none = hits-none q ps out in omega (arith, free, none)
]

free-over : (bytes : Sector) (ps : List Place) → IsMapOf bytes ps → blocks_free bytes ≡ over 35 (map_bit bytes)
unfolding blocks_free over
free-over bytes ps map =
    sum-same _ _ 35 (λ k lt. off-18 (k + 1) _ _ (λ ne. map.counts (k + 1) (omega arith) (omega (arith, lt))))

-- of a map, and the distinct places on which it is
pub free-and-taken : (bytes : Sector) (ps : List Place) → IsMapOf bytes ps → EachOnce ps
    → blocks_free bytes + length (filter (λ p. not (nat_eq p.track 18)) ps) ≡ 664
free-and-taken bytes ps map once =
    let both = sym (over-plus 35 (map_bit bytes) (hits ps))
    ∙ over-same 35 (λ t s. map_bit bytes t s + hits ps t s) (λ t s. 1)
    (λ t s low ne on. free-or_hit bytes ps (record { track = t; sector = s; on_disk = on }) map once) ∙ over-all in
    omega (arith, both, free-over bytes ps map, over-hits ps)

-- of a layout: the directory is on track 18
none-outside : (ps : List Place) → AllByRecursion (λ p. p.track ≡ 18) ps → filter outside ps ≡ []
none-outside [] on = refl
none-outside (p ∷ ps) on = let out : outside p ≡ false = let here = on.0 in grind (arith, nat_tests) in
    rw out (none-outside ps on.1)

pub free-and-owned : (img : Image) (l : Layout) → IsCleanLayout img l
    → blocks_free (sector img map_place) + length (filter (λ p. not (nat_eq p.track 18)) (flat_map file_owns l.files))
    ≡ 664
unfolding owners
free-and-owned img l h =
    let all = free-and-taken (sector img map_place) (map_place ∷ owners l) h.map h.layout.once in
    let F : List Place = flat_map file_owns l.files in
    let same : filter outside (l.directory ++ F) ≡ filter outside F = filter-append outside l.directory F
    ∙ ap (λ (ps : List Place). ps ++ filter outside F) (none-outside l.directory h.layout.directory.on_track) in
    omega (arith, all, ap (λ (ps : List Place). length ps) same)

-- of one file, and the others
pub others-and-own : (l : Layout) (n : ℕ) (f : File) → slice_get l.files n ≡ Some f
    → taken_by_others l n + length (filter (λ p. not (nat_eq p.track 18)) (file_owns f))
    ≡ length (filter (λ p. not (nat_eq p.track 18)) (flat_map file_owns l.files))
unfolding taken_by_others
others-and-own l n f there =
    let (before, after, split, at) = split-get l.files n f there in
    let T : List File → ℕ = λ fs. length (filter outside (flat_map file_owns fs)) in
    let rest : others n n 0 l.files ≡ before ++ after = ap (others n n 0) split
    ∙ others-around n 0 before after f (omega (arith, at)) in
    let whole : T l.files ≡ T before + T (f ∷ after) = ap T split ∙ parts before (f ∷ after) in
    omega (
      arith,
      whole,
      ap T rest,
      parts before after,
      parts (f ∷ []) after,
      ap (λ (ps : List Place). length (filter outside ps)) (append-nil (file_owns f)),
    )
  where
    parts : (fs gs : List File) → length (filter outside (flat_map file_owns (fs ++ gs)))
        ≡ length (filter outside (flat_map file_owns fs)) + length (filter outside (flat_map file_owns gs))
    parts fs gs =
        ap (λ (ps : List Place). length (filter outside ps)) (flat_map-append file_owns fs gs)
        ∙ ap (λ (ps : List Place). length ps) (filter-append outside (flat_map file_owns fs) (flat_map file_owns gs))
        ∙ length-append (filter outside (flat_map file_owns fs)) (filter outside (flat_map file_owns gs))

filter-short : (ps : List Place) → length (filter outside ps) ≤ length ps
filter-short ps = omega (arith, length-filter_both outside (λ p. not (outside p)) (λ p. refl) ps)

-- so where records of 18 bytes up to r fit, the free sectors and the file's own suffice for their blocks and side
-- sectors
pub Fits-free : (img : Image) (l : Layout) (n r : ℕ) (f : File) → IsCleanLayout img l → slice_get l.files n ≡ Some f
    → Fits l n r → (18 * r + 253) / 254 + sides_for ((18 * r + 253) / 254) ≤ blocks_free (sector img map_place)
    + (length f.blocks + length f.sides)
Fits-free img l n r f h there fits =
    omega (
      arith,
      fits.room,
      free-and-owned img l h,
      others-and-own l n f there,
      filter-short (file_owns f),
      length-append f.blocks f.sides,
    )

-- distinct sectors outside track 18 are 664 at most
pub owned-most : (ps : List Place) → EachOnce ps → length (filter (λ p. not (nat_eq p.track 18)) ps) ≤ 664
owned-most ps once =
    let rest : ℕ → ℕ → ℕ = λ t s. 1 - hits ps t s in
    let both = sym (over-plus 35 rest (hits ps))
    ∙ over-same 35 (λ t s. rest t s + hits ps t s) (λ t s. 1)
    (λ t s low ne on. few (record { track = t; sector = s; on_disk = on })) ∙ over-all in
    omega (arith, both, over-hits ps)
  where
    few : (q : Place) → 1 - hits ps q.track q.sector + hits ps q.track q.sector ≡ 1
    few q = elim (hits-one q ps once) [
      | inl own ↦ let one = own.1 in omega (arith, one)
      | inr out ↦ let none = hits-none q ps out in omega (arith, none)
    ]

-- and so are those that the other files of a layout own
pub others-most : (l : Layout) (n : ℕ) (f : File) → slice_get l.files n ≡ Some f → EachOnce (map_place ∷ owners l)
    → taken_by_others l n ≤ 664
unfolding owners
others-most l n f there once =
    let F : List Place = flat_map file_owns l.files in
    let parts : length (filter outside (l.directory ++ F)) ≡ length (filter outside l.directory)
    + length (filter outside F)
    = ap (λ (ps : List Place). length ps) (filter-append outside l.directory F)
    ∙ length-append (filter outside l.directory) (filter outside F) in
    omega (arith, others-and-own l n f there, owned-most (l.directory ++ F) once.1, parts)
