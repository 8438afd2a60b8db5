-- The next free sector is taken.
use Rattle.std.proofs.Common.{◌≡◌, ◌≢◌, ◌<◌, ◌+◌, ◌%◌, ℕ, ◌⊎◌, inl, inr, Bool, true, false, ◌≤◌, List, [], ◌∷◌, ◌++◌}
use Rattle.std.proofs.Common.{Option, Some, None, length, take, drop, arith, ap, ap₂, refl, subst, sym, ◌∙◌}
use Rattle.std.specs.Prelude.{Contains, IsSome, MatchOption, nat_eq, if◌then◌else◌}
use Rattle.std.proofs.lemmas.Bool.{eq-eqb, ne_eqb}
use Rattle.d64_image.specs.declared.place.Place.{Place}
use Rattle.d64_image.specs.Images.{Sector}
use Rattle.disk_layout.proofs.lemmas.map.FreeBlocks.{full-none, taken-block}
use Rattle.disk_layout.proofs.lemmas.map.Maps.{set-free, taken-map}
use Rattle.disk_layout.proofs.lemmas.lists.Once.{Contains-cases, Contains-here, Contains-there}
use Rattle.disk_layout.specs.Map.{IsFirstFree, IsFree, IsFullDisk, IsMapOf, IsTaken}
use Rattle.disk_layout.specs.View.{blocks_free}
use Rattle.disk_layout.specs.Directory.{slot_in}
use Rattle.disk_layout.specs.Entries.{IsRecounted}
use Rattle.disk_layout.specs.Layout.{count_field}
use Rattle.rel_records.specs.declared.growth.step_parts.Growing.{Growing}
use Rattle.rel_records.specs.growth.Next.{IsFresh, IsLaidOut, IsLinked, TakesPlaces}
use Rattle.rel_records.specs.growth.Steps.{TakesNext, taken_next}

pub pick-some : (bytes : Sector) (r : Option Place) (owned : List Place) → IsMapOf bytes owned → 0 < blocks_free bytes
    → MatchOption r (IsFullDisk bytes) (IsFirstFree bytes) → IsSome r
pick-some bytes (Some p) owned map some h = refl
pick-some bytes None owned map some h = absurd (omega (arith, some, full-none bytes owned map h))

pub picked : (bytes : Sector) (r : Option Place) (p : Place) → r ≡ Some p
    → MatchOption r (IsFullDisk bytes) (IsFirstFree bytes) → IsFirstFree bytes p
picked bytes (Some q) p e h = let one : q ≡ p = cc in rw (← one) h
picked bytes None p e h = cc

pub takes-next : (old new : Sector) (p : Place) (owned : List Place) → IsMapOf old owned → IsFirstFree old p
    → (IsFree old p → IsTaken old new p) → TakesNext old new p
takes-next old new p owned map first take = record {
  off = first.track;
  taken = take first.free;
  free = taken-block old new owned p map first.free first.track (take first.free);
  unowned = λ ps is. set-free old ps p is first.free;
  owned = λ ps is. taken-map old new ps (p ∷ ps) p is (set-free old ps p is first.free) (take first.free)
      (λ q. (λ c. Contains-cases q p ps c, λ x. either q ps x));
}
  where
    either : (q : Place) (ps : List Place) → (p ≡ q) ⊎ Contains ps q → Contains (p ∷ ps) q
    either q ps (inl e) = rw (← e) (Contains-here p ps)
    either q ps (inr c) = Contains-there q p ps c

-- a second sector is taken for a side sector
pub places-side : (p q : Growing) (mid : Sector) (fresh side : Place) → TakesNext p.map.bytes mid fresh
    → TakesNext mid q.map.bytes side → length p.blocks.items % 120 ≡ 0
    → q.blocks.items ≡ p.blocks.items ++ fresh ∷ [] → q.sides.items ≡ p.sides.items ++ side ∷ [] → q.sector ≡ p.sector
    → q.number ≡ p.number → q.size ≡ p.size → TakesPlaces p q fresh
places-side p q mid fresh side first second full blocks sides sector number size = record {
  blocks = blocks;
  unowned = first.unowned;
  taken = inr (record {
    full = full;
    side = side;
    sides = sides;
    unowned = λ owned is. second.unowned (fresh ∷ owned) (first.owned owned is);
    owned = λ owned is. second.owned (fresh ∷ owned) (first.owned owned is);
  });
  header = (
    second.taken.rest.header.0 ∙ first.taken.rest.header.0,
    second.taken.rest.header.1
        ∙ first.taken.rest.header.1,
  );
  free = (let two : taken_next (length p.blocks.items) ≡ 2 = ap (λ b. if b then 2 else 1) (eqb-same full) in
      omega (arith, two, first.free, second.free));
  sector = sector;
  number = number;
  size = size;
}
  where
    eqb-same : {k : ℕ} → k ≡ 0 → nat_eq k 0 ≡ true
    eqb-same e = ap (λ k. nat_eq k 0) e

-- the places stay taken where other bytes change
pub places-kept : (p m q : Growing) (fresh : Place) → TakesPlaces p m fresh → q.map.bytes ≡ m.map.bytes
    → q.blocks.items ≡ m.blocks.items → q.sides.items ≡ m.sides.items → q.sector ≡ m.sector → q.number ≡ m.number
    → q.size ≡ m.size → TakesPlaces p q fresh
places-kept p m q fresh h map blocks sides sector number size = record {
  blocks = blocks ∙ h.blocks;
  unowned = h.unowned;
  taken = elim h.taken [
    | inl t ↦ inl (record {
      within = t.within;
      sides = sides ∙ t.sides;
      owned = λ owned is. (let P : Sector → Type 0 = λ b. IsMapOf b (fresh ∷ owned) in
          subst P (sym map) (t.owned owned is));
    })
    | inr t ↦ inr (record {
      full = t.full;
      side = t.side;
      sides = sides ∙ t.sides;
      unowned = t.unowned;
      owned = λ owned is. (let P : Sector → Type 0 = λ b. IsMapOf b (t.side ∷ fresh ∷ owned) in
          subst P (sym map) (t.owned owned is));
    })
  ];
  header = (ap (take 4) map ∙ h.header.0, ap (drop 144) map ∙ h.header.1);
  free = ap (λ b. blocks_free b + taken_next (length p.blocks.items)) map ∙ h.free;
  sector = sector ∙ h.sector;
  number = number ∙ h.number;
  size = size ∙ h.size;
}

-- all that the next block needs
pub laid-out : (p m q : Growing) (fresh : Place) (block : Sector) (k owned : ℕ) → TakesPlaces p m fresh → m.last ≡ p.last
    → m.directory ≡ p.directory
    → q.map.bytes ≡ m.map.bytes → q.blocks.items ≡ m.blocks.items → q.sides.items ≡ m.sides.items → q.sector ≡ m.sector
    → q.number ≡ m.number → q.size ≡ m.size
    → k ≡ length p.blocks.items → IsFresh k m.size block → IsLinked k m.size fresh m.last q.last
    → IsRecounted m.directory q.directory m.number
    → owned ≡ length m.blocks.items + length m.sides.items
    → ((d : Place) → count_field (slot_in d q.directory m.number) ≡ owned) → IsLaidOut p q fresh block
laid-out p m q fresh block k owned places last directory map blocks sides sector number size many made linked recounted
    total count = record {
      places = places-kept p m q fresh places map blocks sides sector number size;
      made = (let P : ℕ → Type 0 = λ n. IsFresh n p.size block in let Q : ℕ → Type 0 = λ n. IsFresh k n block in
          subst P many (subst Q places.size made));
      last =
          let P : ℕ → Type 0 = λ n. IsLinked n p.size fresh p.last q.last in
          let Q : ℕ → Type 0 = λ n. IsLinked k n fresh p.last q.last in
          let R : Sector → Type 0 = λ b. IsLinked k m.size fresh b q.last in
          subst P many (subst Q places.size (subst R last linked));
      recounted =
          let P : ℕ → Type 0 = λ n. IsRecounted p.directory q.directory n in
          let R : Sector → Type 0 = λ b. IsRecounted b q.directory m.number in
          subst P places.number (subst R directory recounted);
      count = λ d. ap (λ n. count_field (slot_in d q.directory n)) (sym places.number) ∙ count d ∙ total
          ∙ ap₂ (λ xs ys. length xs + length ys) (sym blocks) (sym sides);
    }

-- the sector of the block is all that is taken
pub places-block : (p q : Growing) (fresh : Place) → TakesNext p.map.bytes q.map.bytes fresh
    → length p.blocks.items % 120 ≢ 0
    → q.blocks.items ≡ p.blocks.items ++ fresh ∷ [] → q.sides.items ≡ p.sides.items → q.sector ≡ p.sector
    → q.number ≡ p.number → q.size ≡ p.size → TakesPlaces p q fresh
places-block p q fresh first within blocks sides sector number size = record {
  blocks = blocks;
  unowned = first.unowned;
  taken = inl (record { within = within; sides = sides; owned = first.owned });
  header = (first.taken.rest.header.0, first.taken.rest.header.1);
  free = (let one : taken_next (length p.blocks.items) ≡ 1 =
      ap (λ b. if b then 2 else 1) (ne_eqb (length p.blocks.items % 120) 0 within) in omega (arith, one, first.free));
  sector = sector;
  number = number;
  size = size;
}

-- one sector is taken at least, and two where the side sectors are full
pub taken-some : (n : ℕ) → 1 ≤ taken_next n
taken-some n = by (nat_eq (n % 120) 0)
  where
    by : (b : Bool) → 1 ≤ (if b then 2 else 1)
    by true = omega arith
    by false = omega arith

pub taken-two : (n : ℕ) → n % 120 ≡ 0 → taken_next n ≡ 2
taken-two n full = ap (λ b. if b then 2 else 1) (eq-eqb (n % 120) 0 full)
