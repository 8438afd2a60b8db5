-- Where a side sector stands among the places of a file.
use Rattle.std.proofs.Common.{◌≡◌, ℕ, suc, ◌+◌, ◌<◌, List, [], ◌∷◌, ◌++◌, length}
use Rattle.std.proofs.Common.{arith, refl, subst, sym}
use Rattle.std.specs.Prelude.{slice_get, Some}
use Rattle.d64_image.specs.Images.{Image, sector}
use Rattle.d64_image.specs.declared.place.Place.{Place}
use Rattle.disk_layout.proofs.lemmas.chains.Chains.{IsChain-one, Names-one}
use Rattle.disk_layout.specs.Chain.{Leads}
use Rattle.disk_layout.specs.Fault.{IsSideSector, SidesLead}
use Rattle.disk_layout.specs.Side.{NamesNext}
use Rattle.disk_layout.specs.Layout.{File, IsRelFile}
use Rattle.disk_layout.proofs.lemmas.lists.Lists.{get-some}

-- side sectors that lead on are linked
pub SidesLead-links : (img : Image) (i : ℕ) (p : Place) (vs : List Place) (q : Place) → SidesLead img i p vs q
    → Leads img p vs q
SidesLead-links img i p [] q a = a
SidesLead-links img i p (v ∷ vs) q a = (a.0, a.1, a.2.0, SidesLead-links img (i + 1) a.0 vs q a.3)

-- one more of them
pub SidesLead-push : (img : Image) (i : ℕ) (p : Place) (vs : List Place) (q n : Place) → SidesLead img i p vs q
    → NamesNext (sector img q) (i + length vs) n → SidesLead img i p (vs ++ q ∷ []) n
SidesLead-push img i p [] q n a h =
    let e : i + 0 ≡ i = omega arith in
    (n, sym a, subst (λ (k : ℕ). NamesNext (sector img q) k n) e h, refl)
SidesLead-push img i p (v ∷ vs) q n a h =
    let e : i + suc (length vs) ≡ (i + 1) + length vs = omega arith in (
      a.0,
      a.1,
      a.2,
      SidesLead-push img (i + 1) a.0 vs q n a.3 (subst (λ (k : ℕ). NamesNext (sector img q) k n) e h),
    )

-- links from a side sector lead to the later ones
side-along : (img : Image) (f : File) (vs : List Place) (k : ℕ) (x p : Place) → IsRelFile img f
    → slice_get f.sides k ≡ Some x → k + length vs < length f.sides → SidesLead img k x vs p
    → slice_get f.sides (k + length vs) ≡ Some p
side-along img f [] k x p r at h a = let n : k + 0 ≡ k = omega arith in rw (n, ← a) at
side-along img f (v ∷ vs) k x p r at h (next, same, to, more) =
    let (y, ey) = get-some f.sides (k + 1) (omega arith) in
    let one : next ≡ y = Names-one (sector img x) 0 next y (rw (← same) to.0) ((r.sides k x at).link y ey) in
    let n : k + suc (length vs) ≡ (k + 1) + length vs = omega arith in
    rw n (side-along img f vs (k + 1) next p r (rw one ey) (omega arith) more)

-- a side sector by its links is that of the file
pub side-at : (img : Image) (f : File) (blocks : List Place) (j : ℕ) (p : Place) → IsRelFile img f
    → IsSideSector img f.slot blocks j p → (blocks ≡ f.blocks) × (slice_get f.sides j ≡ Some p)
side-at img f blocks j p r s =
    let (first, named, chain) = r.chain in
    let start : s.first_block ≡ first = Names-one f.slot.bytes 3 s.first_block first s.named_block named in
    let same : blocks ≡ f.blocks =
    (IsChain-one img first blocks f.blocks s.last f.last (rw (← start) s.chain) chain).0 in
    let wanted : j < length f.sides = rw (r.count, ← same) s.wanted in
    let (q, eq) = get-some f.sides 0 (omega arith) in
    let head : s.first ≡ q = Names-one f.slot.bytes 21 s.first q s.named (r.first_side q eq) in
    let n : 0 + length s.before ≡ j = omega (arith, s.number) in
    (same, rw n at (side-along img f s.before 0 s.first p r (rw head eq) (rw n wanted) s.leads))
