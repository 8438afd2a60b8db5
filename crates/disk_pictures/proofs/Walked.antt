-- Walks as far as the links go: how one stops, and that the walk over a chain has that chain's sectors.
use Rattle.std.proofs.Common.{◌≡◌, ℕ, inl, inr, List, [], ◌∷◌, ◌++◌, refl, subst}
use Rattle.std.specs.Prelude.{Contains, None, Option, Some}
use Rattle.d64_image.specs.Images.{Image}
use Rattle.d64_image.specs.declared.place.Place.{Place}
use Rattle.disk_layout.proofs.lemmas.chains.Chains.{IsChain-one, Leads-push, bad_link-no_chain, loop-no_chain}
use Rattle.disk_layout.specs.Chain.{IsChain}
use Rattle.disk_layout.specs.declared.faults.Fault.{Fault}
use Rattle.disk_layout.specs.declared.faults.Fault.TheVariants.{BadLink, Loop}
use Rattle.damaged_files.specs.reached.Reached.{Ends, IsReach}
use Rattle.disk_pictures.specs.Walks.{IsWalk, StopsAt}

-- the index that ends what was reached is 0 unless its last sector ends the chain
abbrev pub index-of : Option Fault → ℕ → ℕ
index-of None u = u
index-of (Some fault) u = 0

stops-at : (img : Image) (ps : List Place) (last : Place) (fault : Option Fault) (u : ℕ) → Ends img ps last fault u
    → StopsAt img ps last (index-of fault u)
stops-at img ps last None u ends = inl ends
stops-at img ps last (Some (BadLink p)) u ends = inr (refl, inl ends.1)
stops-at img ps last (Some (Loop p)) u ends = inr (refl, inr (p, ends.0, ends.1))
stops-at img ps last (Some fault) u ends = absurd ends

pub reach-walk : (img : Image) (first : Place) (ps : List Place) (fault : Option Fault) (u : ℕ)
    → IsReach img first ps fault u → IsWalk img first ps (index-of fault u)
reach-walk img first ps fault u reach = record {
  front = reach.front;
  last = reach.last;
  places = reach.places;
  leads = reach.leads;
  stops = stops-at img ps reach.last fault u reach.ends;
  once = reach.once;
}

-- where a chain is, the walk goes over that chain
pub walk-of_chain : (img : Image) (p : Place) (ps qs : List Place) (u w : ℕ) → IsChain img p ps u → IsWalk img p qs w
    → (qs ≡ ps) × (w ≡ u)
walk-of_chain img p ps qs u w chain walk = elim walk.stops [
  | inl ends ↦ IsChain-one img p qs ps w u
      (record {
        front = walk.front;
        last = walk.last;
        places = walk.places;
        leads = walk.leads;
        ends = ends;
        once = walk.once;
      }) chain
  | inr (none, inl nowhere) ↦ absurd (bad_link-no_chain img p walk.last walk.front ps u walk.leads nowhere chain)
  | inr (none, inr (q, link, back)) ↦ absurd (loop-no_chain img p q (walk.front ++ walk.last ∷ []) ps u
      (Leads-push img p walk.front walk.last q walk.leads link) (subst (λ (xs : List Place). Contains xs q) walk.places
      back) chain)
]
