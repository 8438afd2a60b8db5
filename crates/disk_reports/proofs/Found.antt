-- Side sectors that were followed, and those of them that are wrong.
use Rattle.std.proofs.Common.{◌≡◌, ◌+◌, ◌<◌, ◌≤◌, ◌⊎◌, ◌↔◌, ◌++◌, ◌∷◌, [], ℕ, List, Some, ap, arith, inl, inr, length, length-append}
use Rattle.std.proofs.Common.{◌*◌, refl, subst, sym, take, ◌∙◌}
use Rattle.std.proofs.lemmas.List.Elements.{Contains-append_cases, Contains-append_left, Contains-append_right}
use Rattle.std.proofs.lemmas.Option.{slice_get_within}
use Rattle.std.proofs.lemmas.Bool.{false≢true}
use Rattle.std.specs.Prelude.{Bool, Contains, None, Option, false, is_some, not, slice_get, true}
use Rattle.std.specs.Str.{bytes_eq}
use Rattle.d64_image.specs.Images.{Image, Sector, sector}
use Rattle.d64_image.specs.declared.place.Place.{Place}
use Rattle.disk_layout.proofs.lemmas.chains.Chains.{Names-one}
use Rattle.disk_layout.proofs.lemmas.layouts.Exact.{exact-side}
use Rattle.disk_layout.proofs.lemmas.lists.Lists.{get-some, take-get}
use Rattle.disk_layout.specs.Chain.{Names, NamesNone}
use Rattle.disk_layout.specs.Fault.{SidesLead}
use Rattle.disk_layout.specs.Side.{NamesNext}
use Rattle.disk_layout.specs.Layout.{record_length, sides_for}
use Rattle.disk_layout.specs.Side.{side_sector}
use Rattle.disk_layout.proofs.lemmas.kept.OtherWrites.{other-bytes}
use Rattle.disk_layout.proofs.lemmas.lists.Once.{Contains-cases, Contains-here, Contains-nil}
use Rattle.disk_layout.specs.declared.faults.Fault.{Fault}
use Rattle.disk_layout.specs.declared.faults.Fault.TheVariants.{BadLink}
use Rattle.disk_layout.specs.declared.slot.Slot.{Slot}
use Rattle.layout_check.proofs.lemmas.judging.Inexact.{same-bytes}
use Rattle.layout_check.specs.Sides.{NamesEach}
use Rattle.disk_reports.specs.Trails.{AreLinked, AreSides, HasWholeChain, IsIntact, IsReachedBy}

-- side sectors led through these to the last one
pub linked : (img : Image) (first : Place) (n : ℕ) (front new : List Place) (at : Place) → SidesLead img 0 first front at
    → new ≡ front ++ at ∷ [] → length new ≤ n
    → (length new ≡ n) ⊎ ((q : Place) → ¬ (NamesNext (sector img at) (length front) q)) → AreLinked img first n new
linked img first n front new at leads all few stops = record {
  front = front;
  last = at;
  places = all;
  leads = leads;
  few = few;
  stops = stops;
}

-- they are no more than the blocks need
pub sides-few : (img : Image) (s : Slot) (blocks : List Place) (end : Option Fault) (sides : List Place)
    → AreSides img s blocks end sides → length sides ≤ sides_for (length blocks)
sides-few img s blocks end sides (inl (whole, first)) = first.2.few
sides-few img s blocks end sides (inr (inl (none, empty))) = omega (arith, ap length empty)
sides-few img s blocks end sides (inr (inr (none, empty))) = omega (arith, ap length empty)

-- a side sector that is intact lists all
pub intact-lists : (img : Image) (s : Slot) (blocks sides : List Place) (j : ℕ) (p : Place) → length blocks ≤ 720
    → (h : IsIntact img s blocks sides j p) → NamesEach (sector img p) 4 (sides ++ h.more)
intact-lists img s blocks sides j p few h =
    (exact-side img (record { slot = s; blocks = blocks; last = 0; sides = sides ++ h.more }) j p
    (omega (arith, h.all, few)) h.exact).sides

-- a place more that bytes list is the next of those that they name
pub listed-more : (bytes : Sector) (xs all : List Place) (n : ℕ) (p : Place) → n < length xs → NamesEach bytes 4 xs
    → Names bytes (4 + 2 * n) p → all ≡ take n xs → all ++ p ∷ [] ≡ take (n + 1) xs
listed-more bytes xs all n p low each named so =
    let (x, at) = get-some xs n low in
    let one : p ≡ x = Names-one bytes (4 + 2 * n) p x named (each n x at) in
    rw (so, one) (sym (take-get xs n x at))

-- where bytes name no place, they don't name so many
pub listed-none : (bytes : Sector) (xs : List Place) (n : ℕ) → n < length xs → NamesEach bytes 4 xs
    → ¬ (NamesNone bytes (4 + 2 * n))
listed-none bytes xs n low each none = let (x, at) = get-some xs n low in none x (each n x at)

-- the only list that a side sector can have if it is intact
pub only-list : (img : Image) (s : Slot) (blocks sides known all : List Place) (j : ℕ) (p : Place) (bytes : Sector)
    (count : ℕ) (found : Type 0) → length blocks ≤ 720 → bytes ≡ sector img p → known ≡ sides
    → count ≡ sides_for (length blocks) → ((more : List Place) → length (known ++ more) ≡ count
    → NamesEach bytes 4 (known ++ more) → found × (all ≡ known ++ more)) → (h : IsIntact img s blocks sides j p)
    → found × (all ≡ sides ++ h.more)
only-list img s blocks sides known all j p bytes count found few read same many only h =
    subst (λ (ks : List Place). (more : List Place) → length (ks ++ more) ≡ count → NamesEach bytes 4 (ks ++ more)
    → found × (all ≡ ks ++ more)) same only h.more (h.all ∙ sym many)
    (subst (λ (b : Sector). NamesEach b 4 (sides ++ h.more)) (sym read) (intact-lists img s blocks sides j p few h))

is-true : (b : Bool) → ¬ (b ≡ false) → b ≡ true
is-true true h = refl
is-true false h = absurd (h refl)

-- bytes that were compared with the exact ones of the only list that a side sector can have if it is intact
pub judged : (img : Image) (s : Slot) (blocks sides all more : List Place) (j : ℕ) (p : Place) (bytes exact : List ℕ)
    (r : Bool) → bytes ≡ sector img p → r ≡ not (bytes_eq bytes exact)
    → exact ≡ side_sector j blocks all (record_length s) → all ≡ sides ++ more → length all ≡ sides_for (length blocks)
    → ((h : IsIntact img s blocks sides j p) → all ≡ sides ++ h.more)
    → (r ≡ true) ↔ ¬ (IsIntact img s blocks sides j p)
judged img s blocks sides all more j p bytes exact r read is made grown long only = (to, from)
  where
    at : (xs : List Place) → all ≡ xs → exact ≡ side_sector j blocks xs (record_length s)
    at xs e = made ∙ ap (λ (ys : List Place). side_sector j blocks ys (record_length s)) e

    to : r ≡ true → ¬ (IsIntact img s blocks sides j p)
    to on h = other-bytes bytes exact r is on (read ∙ h.exact ∙ sym (at (sides ++ h.more) (only h)))

    from : ¬ (IsIntact img s blocks sides j p) → r ≡ true
    from none = is-true r (λ off. none (record {
      more = more;
      all = sym (ap length grown) ∙ long;
      exact = sym read ∙ same-bytes bytes exact r is off ∙ at (sides ++ more) grown;
    }))

-- those of a list's first n that have something
abbrev pub Found : (ℕ → Place → Type 0) → List Place → ℕ → List Place → Type 0
Found P sides n items =
    (p : Place) → Contains items p ↔ ((j : ℕ) × (j < n) × (slice_get sides j ≡ Some p) × P j p)

pub found-none : (P : ℕ → Place → Type 0) (sides items : List Place) → items ≡ [] → Found P sides 0 items
found-none P sides items none p = rw none (λ c. absurd (Contains-nil p c), λ h. absurd (omega (arith, h.1)))

one-of-two : (j n : ℕ) → j < n + 1 → (j < n) ⊎ (j ≡ n)
one-of-two j n low = grind arith

-- one more, which has it
pub found-more : (P : ℕ → Place → Type 0) (sides items new : List Place) (n : ℕ) (q : Place) → slice_get sides n ≡ Some q
    → P n q → new ≡ items ++ q ∷ [] → Found P sides n items → Found P sides (n + 1) new
found-more P sides items new n q there has more so p = rw more (to, from)
  where
    Here : ℕ → Type 0
    Here m = (j : ℕ) × (j < m) × (slice_get sides j ≡ Some p) × P j p

    last : Contains (q ∷ []) p → Here (n + 1)
    last c = elim (Contains-cases p q [] c) [
      | inl e ↦ subst (λ (x : Place). (j : ℕ) × (j < n + 1) × (slice_get sides j ≡ Some x) × P j x) e
          (n, omega arith, there, has)
      | inr none ↦ absurd (Contains-nil p none)
    ]

    to : Contains (items ++ q ∷ []) p → Here (n + 1)
    to c = elim (Contains-append_cases items (q ∷ []) p c) [
      | inl old ↦ let (j, low, at, is) = (so p).0 old in (j, omega (arith, low), at, is)
      | inr new ↦ last new
    ]

    from : Here (n + 1) → Contains (items ++ q ∷ []) p
    from (j, low, at, is) = elim (one-of-two j n low) [
      | inl old ↦ Contains-append_left items (q ∷ []) p ((so p).1 (j, old, at, is))
      | inr e ↦
          let same : Some q ≡ Some p = sym there ∙ ap (λ (k : ℕ). slice_get sides k) (sym e) ∙ at in
          let one : q ≡ p = cc in
          subst (λ (x : Place). Contains (items ++ q ∷ []) x) one
          (Contains-append_right items (q ∷ []) q (Contains-here q []))
    ]

-- one more, which hasn't
pub found-same : (P : ℕ → Place → Type 0) (sides items : List Place) (n : ℕ) (q : Place) → slice_get sides n ≡ Some q
    → ¬ (P n q) → Found P sides n items → Found P sides (n + 1) items
found-same P sides items n q there hasnt so p = (to, from)
  where
    to : Contains items p → (j : ℕ) × (j < n + 1) × (slice_get sides j ≡ Some p) × P j p
    to c = let (j, low, at, is) = (so p).0 c in (j, omega (arith, low), at, is)

    from : (j : ℕ) × (j < n + 1) × (slice_get sides j ≡ Some p) × P j p → Contains items p
    from (j, low, at, is) = elim (one-of-two j n low) [
      | inl old ↦ (so p).1 (j, old, at, is)
      | inr e ↦
          let same : Some q ≡ Some p = sym there ∙ ap (λ (k : ℕ). slice_get sides k) (sym e) ∙ at in
          let one : p ≡ q = cc in
          absurd (hasnt (subst (λ (x : Place). P n x) one (subst (λ (k : ℕ). P k p) e is)))
    ]

-- all of them
pub found-all : (P : ℕ → Place → Type 0) (sides items : List Place) (n : ℕ) → length sides ≤ n → Found P sides n items
    → (p : Place) → Contains items p ↔ ((j : ℕ) × (slice_get sides j ≡ Some p) × P j p)
found-all P sides items n long so p =
    (λ c. let h = (so p).0 c in (h.0, h.2, h.3), λ (j, at, is). (so p).1 (j, omega (arith, slice_get_within sides j p at, long), at, is))

-- an entry that is relative has a block if its chain is whole
pub reached-some : (img : Image) (s : Slot) (blocks : List Place) (end : Option Fault) → IsReachedBy img s blocks end
    → HasWholeChain s end → 0 < length blocks
reached-some img s blocks end (u, inl (plain, none, fine, z)) whole = absurd (false≢true (sym plain.0 ∙ whole.0))
reached-some img s blocks end (u, inr (inl (other, none, empty, broken, z))) whole =
    let clash : Some (BadLink s.sector) ≡ None = sym broken ∙ whole.1 in cc
reached-some img s blocks end (u, inr (inr (p, names, reach))) whole =
    omega (arith, ap length reach.places, length-append reach.front (reach.last ∷ []))

-- what isn't some is none
pub not-some : {X : Type 0} (o : Option X) (b : Bool) → b ≡ is_some o → b ≡ false → o ≡ None
not-some None b is absent = refl
not-some (Some x) b is absent = absurd (false≢true (sym absent ∙ is))
