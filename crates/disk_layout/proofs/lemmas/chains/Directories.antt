-- The directory's sectors, read one after another.
use Rattle.std.proofs.Common.{
  List,
  [],
  append-nil,
  ap,
  arith,
  eqb,
  false,
  inl,
  inr,
  length,
  length-append,
  map,
  refl,
  subst,
  suc,
  sym,
  true,
  zero,
  ℕ,
  ◌++◌,
  ◌-◌,
  ◌<◌,
  ◌∙◌,
  ◌∷◌,
  ◌≡◌,
  ◌≢◌,
  ◌≤◌,
  ◌⊎◌,
}
use Rattle.std.proofs.lemmas.Bool.{false≢true, or_cases, ne_eqb}
use Rattle.std.proofs.lemmas.Bool.Decides.{Decides-eqb}
use Rattle.std.proofs.lemmas.Grind.{flat_map-append}
use Rattle.std.proofs.lemmas.List.Elements.{filter-append}
use Rattle.std.proofs.lemmas.Map.Steps.{length-le_from_distinct_below}
use Rattle.std.specs.List.{AllByRecursion, IsDistinct, list_any}
use Rattle.std.specs.Prelude.{Contains, Some, filter, flat_map, slice_index}
use Rattle.d64_image.proofs.Places.{place_at-some, same_place}
use Rattle.d64_image.specs.Geometry.{sectors_on}
use Rattle.d64_image.specs.Images.{Image, sector}
use Rattle.d64_image.specs.Places.{place_at}
use Rattle.d64_image.specs.declared.place.Place.{Place}
use Rattle.disk_layout.proofs.lemmas.chains.Chains.{Leads-push}
use Rattle.disk_layout.proofs.lemmas.lists.Lists.{all-map, all-push}
use Rattle.disk_layout.proofs.lemmas.lists.Once.{Contains-here, Contains-there, EachOnce-push, all-in}
use Rattle.disk_layout.specs.Chain.{EachOnce, Leads, Names, NamesNone}
use Rattle.disk_layout.specs.Directory.{
  IsDirectory,
  IsDirectoryPlace,
  directory_start,
  is_used,
  map_place,
  slots_in,
  used_slots,
}
use Rattle.disk_layout.specs.Fault.{HoldsOfDirectory, nowhere}
use Rattle.disk_layout.specs.Listing.{LinksOut}
use Rattle.disk_layout.specs.declared.faults.Fault.TheVariants.{BadLink, Loop}
use Rattle.disk_layout.specs.declared.slot.Slot.{Slot}

-- at most eighteen sectors, told apart by their number on track 18 counted from 18/1
abbrev rank : Place → ℕ
rank p = p.sector - 1

from_1 : (p : Place) → IsDirectoryPlace p → 0 < p.sector
from_1 p h = let ne : p.sector ≢ 0 = λ e. h.1 (same_place p map_place h.0 e) in omega arith

rank-below : (p : Place) → IsDirectoryPlace p → rank p < 18
rank-below p h =
    let P : ℕ → Type 0 = λ t. p.sector < sectors_on t in
    let at : p.sector < 19 = subst P h.0 p.on_disk in
    omega (arith, at)

same-rank : (p q : Place) → IsDirectoryPlace p → IsDirectoryPlace q → rank p ≡ rank q → p ≡ q
same-rank p q a b e = same_place p q (a.0 ∙ sym b.0) (omega (arith, e, from_1 p a, from_1 q b))

differ : (p : Place) (ps : List Place) → IsDirectoryPlace p → AllByRecursion IsDirectoryPlace ps → ¬ (Contains ps p)
    → AllByRecursion (λ y. eqb (rank p) y ≡ false) (map rank ps)
differ p [] h all n = tt
differ p (q ∷ ps) h all n = (
  ne_eqb (rank p) (rank q) (λ e. let s : p ≡ q =
      same-rank p q h all.0 e in n (rw s (Contains-here q ps))),
  differ p ps h all.1 (λ c. n (Contains-there p q ps c)),
)

distinct : (ps : List Place) → EachOnce ps → AllByRecursion IsDirectoryPlace ps → IsDistinct eqb (map rank ps)
unfolding IsDistinct
distinct [] once all = tt
distinct (p ∷ ps) once all = (differ p ps all.0 all.1 once.0, distinct ps once.1 all.1)

below : (ps : List Place) → AllByRecursion IsDirectoryPlace ps → (q : ℕ) → list_any (eqb q) (map rank ps) ≡ true
    → q < 18
below [] all q h = absurd (false≢true h)
below (p ∷ ps) all q h = step (below ps all.1 q) (or_cases (eqb q (rank p)) (list_any (eqb q) (map rank ps)) h)
  where
    step : (list_any (eqb q) (map rank ps) ≡ true → q < 18) → (eqb q (rank p) ≡ true)
        ⊎ (list_any (eqb q) (map rank ps) ≡ true) → q < 18
    step more (inl e) = omega (arith, (Decides-eqb q (rank p)).0 e, rank-below p all.0)
    step more (inr t) = more t

length-ranks : (ps : List Place) → length (map rank ps) ≡ length ps
length-ranks [] = refl
length-ranks (p ∷ ps) = ap suc (length-ranks ps)

-- a directory has eighteen sectors at most
pub directory-few : (ps : List Place) → EachOnce ps → AllByRecursion IsDirectoryPlace ps → length ps ≤ 18
directory-few ps once all =
    omega (arith, length-ranks ps, length-le_from_distinct_below (map rank ps) 18 (distinct ps once all) (below ps all))

pub directory-places : (ps : List Place) → AllByRecursion (λ p. p.track ≡ 18) ps → ¬ (Contains ps map_place)
    → AllByRecursion IsDirectoryPlace ps
directory-places [] on off = tt
directory-places (p ∷ ps) on off = (
  (on.0, λ e. off (rw e (Contains-here map_place ps))),
  directory-places ps on.1 (λ c. off (Contains-there map_place p ps c)),
)

pub few-sectors : (img : Image) (ps : List Place) (es : List Slot) → IsDirectory img ps es → length ps ≤ 18
few-sectors img ps es d = directory-few ps d.chain.once (directory-places ps d.on_track d.not_map)

-- the links of the directory lead through these sectors, each of them once and each one that a directory may have, to p
pub record IsReached (img : Image) (before : List Place) (p : Place) : Type 0 where
  pub leads : Leads img directory_start before p
  pub once : EachOnce (before ++ p ∷ [])
  pub places : AllByRecursion IsDirectoryPlace (before ++ p ∷ [])

pub few-before : (img : Image) (before : List Place) (p : Place) → IsReached img before p → length before < 18
few-before img before p h = omega (
  arith,
  directory-few (before ++ p ∷ []) h.once h.places,
  length-append before (p ∷ []),
)

one_zero : suc zero ≡ zero → ⊥
one_zero e = cc

start-other : directory_start ≢ map_place
start-other e = one_zero (ap (λ (q : Place). q.sector) e)

pub reached-start : (img : Image) (before : List Place) (p : Place) → before ≡ [] → p ≡ directory_start
    → IsReached img before p
reached-start img before p none e = rw (none, e) (record {
  leads = refl;
  once = (λ c. absurd (omega (arith, c.1)), tt);
  places = ((refl, start-other), tt);
})

pub used-none : (img : Image) (before : List Place) (entries : List Slot) → before ≡ [] → entries ≡ []
    → entries ≡ used_slots img before
unfolding used_slots
used-none img before entries none empty = rw none empty

pub reached-next : (img : Image) (before : List Place) (p next : Place) (to : List ℕ) → IsReached img before p
    → to ≡ sector img p → Names to 0 next → IsDirectoryPlace next → ¬ (Contains (before ++ p ∷ []) next)
    → IsReached img (before ++ p ∷ []) next
reached-next img before p next to h read names on new = record {
  leads = Leads-push img directory_start before p next h.leads (rw (← read) names);
  once = EachOnce-push (before ++ p ∷ []) next h.once new;
  places = all-push IsDirectoryPlace (before ++ p ∷ []) next h.places on;
}

-- the slots of one more sector
pub used-more : (img : Image) (before : List Place) (p : Place) (to : List ℕ) (old new : List Slot)
    → old ≡ used_slots img before → to ≡ sector img p → new ≡ old ++ filter is_used (slots_in p to)
    → new ≡ used_slots img (before ++ p ∷ [])
unfolding used_slots
used-more img before p to old new so_far read more =
    let f : Place → List Slot = λ q. slots_in q (sector img q) in
    more
    ∙ ap (λ xs. xs ++ filter is_used (slots_in p to)) so_far
    ∙ ap (λ b. filter is_used (flat_map f before) ++ filter is_used (slots_in p b)) read
    ∙ ap (λ xs. filter is_used (flat_map f before) ++ filter is_used xs) (sym (append-nil (f p)))
    ∙ sym (filter-append is_used (flat_map f before) (f p ++ []))
    ∙ ap (filter is_used) (sym (flat_map-append f before (p ∷ [])))

-- the directory ends with this sector
pub directory-whole : (img : Image) (before : List Place) (p : Place) (to : List ℕ) (entries : List Slot)
    → IsReached img before p → to ≡ sector img p → slice_index to 0 ≡ 0 → entries ≡ used_slots img (before ++ p ∷ [])
    → (ps : List Place) × IsDirectory img ps entries
directory-whole img before p to entries h read ends slots = (
  before ++ p ∷ [],
  record {
    last = slice_index to 1;
    chain = record {
      front = before;
      last = p;
      places = refl;
      leads = h.leads;
      ends = rw (← read) (ends, refl);
      once = h.once;
    };
    on_track = all-map IsDirectoryPlace (λ q. q.track ≡ 18) (before ++ p ∷ []) (λ q c d. d.0) h.places;
    not_map = λ c. (all-in IsDirectoryPlace (before ++ p ∷ []) map_place h.places c).1 refl;
    slots = slots;
  },
)

-- the sector links to none that a directory may have
pub bad-link : (img : Image) (before : List Place) (p : Place) (to : List ℕ) → IsReached img before p
    → to ≡ sector img p → slice_index to 0 ≢ 0 → LinksOut to → HoldsOfDirectory nowhere img (BadLink p)
bad-link img before p to h read ne out = (
  record { before = before; visits = (h.leads, h.once); places = h.places },
  rw (← read) (by out),
)
  where
    by : LinksOut to → ((slice_index to 0 ≢ 0) × NamesNone to 0) ⊎ ((q : Place) × Names to 0 q × ¬ (IsDirectoryPlace q))
    by (inl none) = inl (ne, none)
    by (inr other) = inr other

-- the sector links back to one of those before it, or to itself
pub comes-back : (img : Image) (before : List Place) (p next : Place) (to : List ℕ) → IsReached img before p
    → to ≡ sector img p → Names to 0 next → Contains (before ++ p ∷ []) next → HoldsOfDirectory nowhere img (Loop next)
comes-back img before p next to h read names there = (
  before ++ p ∷ [],
  (Leads-push img directory_start before p next h.leads (rw (← read) names), h.once, there),
  h.places,
)

-- what the first two bytes name
pub names-here : (to : List ℕ) (q : Place) → place_at (slice_index to 0) (slice_index to 1) ≡ Some q → Names to 0 q
names-here to q at = let h = place_at-some (slice_index to 0) (slice_index to 1) q at in (sym h.0, sym h.1)

-- what was read, of an image that is still the first
pub read-now : (img now : Image) (p : Place) (to : List ℕ) → now ≡ img → to ≡ sector now p → to ≡ sector img p
read-now img now p to same read = read ∙ ap (λ i. sector i p) same
