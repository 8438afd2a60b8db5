-- How a walk over sectors stops, and that over a chain it has that chain's sectors.
use Rattle.std.proofs.Common.{◌≡◌, ℕ, List, [], ◌∷◌, ◌++◌, Result, Ok, Err, refl, true}
use Rattle.std.specs.Prelude.{Contains, None, OnOk, Option, Some, is_ok}
use Rattle.std.proofs.lemmas.Bool.{false≢true}
use Rattle.d64_image.specs.Images.{Image}
use Rattle.d64_image.specs.declared.place.Place.{Place}
use Rattle.disk_layout.proofs.lemmas.chains.Chains.{IsChain-one, Leads-push, bad_link-no_chain, loop-no_chain}
use Rattle.disk_layout.proofs.lemmas.lists.Once.{EachOnce-push}
use Rattle.disk_layout.specs.Chain.{EachOnce, IsChain, Leads}
use Rattle.disk_layout.specs.declared.faults.Fault.{Fault}
use Rattle.disk_layout.specs.declared.faults.Fault.TheVariants.{BadLink, Loop}
use Rattle.damaged_files.specs.reached.Reached.{Ends, IsReach}

-- what holds at an answer, if there is one
pub at-answer : {T E P : Type 0} (r : Result T E) → is_ok r ≡ true → OnOk r P → P
at-answer (Ok x) is p = p
at-answer (Err e) is p = absurd (false≢true is)

-- the sectors visited and a new one, where the links end so
pub reach-stops : (img : Image) (first p : Place) (ps : List Place) (fault : Option Fault) (u : ℕ) → Leads img first ps p
    → EachOnce ps → ¬ (Contains ps p) → Ends img (ps ++ p ∷ []) p fault u → IsReach img first (ps ++ p ∷ []) fault u
reach-stops img first p ps fault u leads once new ends = record {
  front = ps;
  last = p;
  places = refl;
  leads = leads;
  once = EachOnce-push ps p once new;
  ends = ends;
}

-- where a chain is, that chain is reached
pub reach-chain : (img : Image) (first : Place) (ps qs : List Place) (fault : Option Fault) (u w : ℕ)
    → IsReach img first ps fault u → IsChain img first qs w → (ps ≡ qs) × (u ≡ w) × (fault ≡ None)
reach-chain img first ps qs None u w h chain =
    let both = IsChain-one img first ps qs u w (record {
      front = h.front;
      last = h.last;
      places = h.places;
      leads = h.leads;
      ends = h.ends;
      once = h.once;
    }) chain in
    (both.0, both.1, refl)
reach-chain img first ps qs (Some (BadLink p)) u w h chain =
    absurd (bad_link-no_chain img first h.last h.front qs w h.leads h.ends.1 chain)
reach-chain img first ps qs (Some (Loop p)) u w h chain = absurd (loop-no_chain img first p (h.front ++ h.last ∷ []) qs w
    (Leads-push img first h.front h.last p h.leads h.ends.0) (rw h.places at h.ends.1) chain)
reach-chain img first ps qs (Some fault) u w h chain = absurd h.ends
