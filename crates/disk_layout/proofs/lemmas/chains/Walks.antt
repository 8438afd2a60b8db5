-- The steps of a walk along a chain.
use Rattle.std.proofs.Common.{
  ◌<◌,
  ◌≡◌,
  ◌≢◌,
  ◌↔◌,
  ℕ,
  ◌⊎◌,
  inl,
  inr,
  true,
  false,
  List,
  [],
  ◌∷◌,
  ◌++◌,
  slice_index,
  refl,
  sym,
  ◌∙◌,
  ap,
  IsTrue,
}
use Rattle.std.specs.Prelude.{Contains}
use Rattle.std.proofs.lemmas.List.Elements.{Contains-append_left, Contains-push, Contains-push_cases}
use Rattle.d64_image.specs.Geometry.{sectors_on}
use Rattle.d64_image.specs.Images.{Image, sector}
use Rattle.d64_image.specs.declared.place.Place.{Place}
use Rattle.disk_layout.proofs.lemmas.lists.Once.{EachOnce-push}
use Rattle.disk_layout.specs.Chain.{EachOnce, EndsAt, IsChain, Leads, LinksNowhere, LinksTo}
use Rattle.disk_layout.specs.Visited.{IsSetOf, is_in}
use Rattle.disk_layout.specs.declared.visited.Visited.{Visited}

pub not_in : (s : Visited) (ps : List Place) (p : Place) → IsSetOf s ps → is_in s p ≡ false → ¬ (Contains ps p)
not_in s ps p h f c = absurd (differ ((h p).1 c) f)
  where
    differ : is_in s p ≡ true → is_in s p ≡ false → ⊥
    differ a b = let e : true ≡ false = sym a ∙ b in cc

pub IsSetOf-push : (old new : Visited) (ps : List Place) (p : Place) → IsSetOf old ps
    → ((q : Place) → IsTrue (is_in new q) ↔ (p ≡ q) ⊎ IsTrue (is_in old q)) → IsSetOf new (ps ++ p ∷ [])
IsSetOf-push old new ps p h now q = (
  λ t. elim ((now q).0 t) [
    | inl e ↦ rw (← e) (Contains-push ps p)
    | inr o ↦ Contains-append_left ps (p ∷ []) q ((h q).0 o)
  ],
  λ c. elim (Contains-push_cases ps p q c) [ inl d ↦ (now q).1 (inr ((h q).1 d)) | inr e ↦ (now q).1 (inl e) ],
)

pub walk-end : (img : Image) (first p : Place) (ps : List Place) (u : ℕ) → Leads img first ps p → EachOnce ps
    → ¬ (Contains ps p) → EndsAt img p u → IsChain img first (ps ++ p ∷ []) u
walk-end img first p ps u leads once new ends = record {
  front = ps;
  last = p;
  places = refl;
  leads = leads;
  ends = ends;
  once = EachOnce-push ps p once new;
}

-- what was read of the sector at p, of an image that is still img
pub link-read : (img now : Image) (p q : Place) (to : List ℕ) → now ≡ img → to ≡ sector now p
    → (q.track ≡ slice_index to 0) × (q.sector ≡ slice_index to 1) → LinksTo img p q
link-read img now p q to same read h =
    let e : to ≡ sector img p = read ∙ ap (λ i. sector i p) same in
    rw (← e) (sym h.0, sym h.1)

pub end-read : (img now : Image) (p : Place) (to : List ℕ) → now ≡ img → to ≡ sector now p → slice_index to 0 ≡ 0
    → EndsAt img p (slice_index to 1)
end-read img now p to same read h =
    let e : to ≡ sector img p = read ∙ ap (λ i. sector i p) same in
    rw (← e) (h, refl)

pub nowhere-read : (img now : Image) (p : Place) (to : List ℕ) → now ≡ img → to ≡ sector now p → slice_index to 0 ≢ 0
    → ¬ (slice_index to 1 < sectors_on (slice_index to 0)) → LinksNowhere img p
nowhere-read img now p to same read ne off =
    let e : to ≡ sector img p = read ∙ ap (λ i. sector i p) same in
    rw (← e) (
      ne,
      λ q h. off (let t : slice_index to 0 ≡ q.track = h.0 in let s : slice_index to 1 ≡ q.sector = h.1 in
          rw (t, s) q.on_disk),
    )
