-- The chain of a file, and walks along it over a device that doesn't fail.
use Rattle.std.proofs.Common.{◌≡◌, ◌≢◌, ◌⊎◌, ◌∷◌, ◌-◌, ◌≤◌, Bool, List, [], ap, arith, false, inl, inr, length, length-append, refl, subst, sym, true, ◌∙◌, ℕ}
use Rattle.std.proofs.Common.{IsFalse, slice_index}
use Rattle.std.proofs.lemmas.Bool.{cases_eq}
use Rattle.std.specs.Prelude.{Err, IfErr, IfOk, None, Ok, Option, Result, Some, slice_get}
use Rattle.std.specs.Result.{is_err}
use Rattle.d64_image.proofs.Places.{track_from_1}
use Rattle.d64_image.specs.Images.{Image, Sector}
use Rattle.d64_image.specs.declared.place.Place.{Place}
use Rattle.disk_layout.proofs.lemmas.chains.Chains.{IsChain-one, bad_link-no_chain, loop-no_chain}
use Rattle.disk_layout.proofs.lemmas.chains.Names.{named-is, named-names}
use Rattle.disk_layout.proofs.lemmas.lists.Lists.{get-some}
use Rattle.disk_layout.specs.Chain.{IsChain, named_at}
use Rattle.disk_layout.specs.Fault.{HoldsOfChain, nowhere}
use Rattle.disk_layout.specs.Layout.{File, HasChain, IsFile, is_rel}
use Rattle.disk_layout.specs.declared.faults.Fault.{Fault}
use Rattle.disk_layout.specs.declared.slot.Slot.{Slot}
use Rattle.disk_layout.specs.declared.faults.Fault.TheVariants.{BadLength, BadLink, BadSide, BadType, CountWrong}
use Rattle.disk_layout.specs.declared.faults.Fault.TheVariants.{Device, Loop, MapWrong, OwnedTwice, Unclosed}

-- a chain that is there is walked
pub walk-passes : (img : Image) (first : Place) (ps : List Place) (u : ℕ) (fault : Fault) → IsChain img first ps u
    → ¬ (HoldsOfChain nowhere img first fault)
walk-passes img first ps u (BadLink p) chain (vs, visits, off) = bad_link-no_chain img first p vs ps u visits.0 off chain
walk-passes img first ps u (Loop p) chain (vs, back) = loop-no_chain img first p vs ps u back.0 back.2 chain
walk-passes img first ps u (Device p) chain h = h
walk-passes img first ps u (OwnedTwice p) chain h = h
walk-passes img first ps u (BadType p) chain h = h
walk-passes img first ps u (Unclosed p) chain h = h
walk-passes img first ps u (BadSide p) chain h = h
walk-passes img first ps u (BadLength p) chain h = h
walk-passes img first ps u (CountWrong p) chain h = h
walk-passes img first ps u (MapWrong p) chain h = h

-- a file has a chain, or owns no block and names none
pub chain-or : (img : Image) (f : File) → IsFile img f → HasChain img f
    ⊎ ((f.blocks ≡ []) × (slice_index f.slot.bytes 3 ≡ 0))
chain-or img f is = by_type (is_rel f.slot) refl
  where
    plain : IsFalse (is_rel f.slot) → (slice_index f.slot.bytes 3 ≡ 0) ⊎ (slice_index f.slot.bytes 3 ≢ 0)
        → HasChain img f ⊎ ((f.blocks ≡ []) × (slice_index f.slot.bytes 3 ≡ 0))
    plain n (inl z) = inr ((is.empty n z).0, z)
    plain n (inr z) = inl (is.plain n z).0

    by_type : (t : Bool) → is_rel f.slot ≡ t → HasChain img f ⊎ ((f.blocks ≡ []) × (slice_index f.slot.bytes 3 ≡ 0))
    by_type true e = inl (is.rel e).chain
    by_type false e = plain e (cases_eq (slice_index f.slot.bytes 3) 0)

-- no place is named: there is no block
pub none-named : (img : Image) (f : File) → IsFile img f → None ≡ named_at f.slot.bytes 3 → f.blocks ≡ []
none-named img f is none = elim (chain-or img f is) [
  | inl h ↦ let both : None ≡ Some h.0 = none ∙ named-is f.slot.bytes 3 h.0 h.1 in cc
  | inr h ↦ h.0
]

-- one is named: the chain begins there
pub chain-named : (img : Image) (f : File) (first : Place) → IsFile img f → Some first ≡ named_at f.slot.bytes 3
    → IsChain img first f.blocks f.last
chain-named img f first is named = elim (chain-or img f is) [
  | inl h ↦
      let both : Some first ≡ Some h.0 = named ∙ named-is f.slot.bytes 3 h.0 h.1 in
      let same : h.0 ≡ first = cc in
      let P : Place → Type 0 = λ p. IsChain img p f.blocks f.last in
      subst P same h.2
  | inr h ↦
      let names = named-names f.slot.bytes 3 first (sym named) in
      absurd (omega (arith, track_from_1 first, names.0, h.1))
]

-- a chain has a block
pub chain-some : (img : Image) (p : Place) (ps : List Place) (u : ℕ) → IsChain img p ps u → 1 ≤ length ps
chain-some img p ps u c = omega (
  arith,
  ap (λ (qs : List Place). length qs) c.places,
  length-append c.front (c.last ∷ []),
)

-- what two bytes of a file's slot name, as they are read
pub as-read : (f : File) (s : Slot) (bytes : Sector) (o : Option Place) (i : ℕ) → f.slot ≡ s → bytes ≡ s.bytes
    → o ≡ named_at bytes i → o ≡ named_at f.slot.bytes i
as-read f s bytes o i same view is = is ∙ ap (λ (bs : Sector). named_at bs i) view
    ∙ ap (λ (x : Slot). named_at x.bytes i) (sym same)

module _ (img : Image) (f : File) (is : IsFile img f) (first : Place) (named : Some first ≡ named_at f.slot.bytes 3) where
  -- the chain of a file is walked
  pub no-refusal : (r : Result ℕ Fault) → is_err r ≡ true → IfErr r (HoldsOfChain nowhere img first) → ⊥
  no-refusal (Ok u) e h = cc
  no-refusal (Err fault) e h = walk-passes img first f.blocks f.last fault (chain-named img f first is named) h

  -- to its blocks
  pub walked-blocks : (r : Result ℕ Fault) (ps : List Place) → is_err r ≡ false → IfOk r (λ u. IsChain img first ps u)
      → ps ≡ f.blocks
  walked-blocks (Ok u) ps e h = (IsChain-one img first ps f.blocks u f.last h (chain-named img f first is named)).0
  walked-blocks (Err fault) ps e h = cc

  -- of which one is the last
  pub last-there : (ps : List Place) → ps ≡ f.blocks → None ≡ slice_get ps (length ps - 1) → ⊥
  last-there ps same none =
      let some = chain-some img first f.blocks f.last (chain-named img f first is named) in
      let (q, at) = get-some f.blocks (length f.blocks - 1) (omega (arith, some)) in
      let both : None ≡ Some q = none ∙ ap (λ (qs : List Place). slice_get qs (length qs - 1)) same ∙ at in
      cc
