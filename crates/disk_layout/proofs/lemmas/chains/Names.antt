-- Places by track and sector: those that the disk has, and those that two bytes name, as a fact and as a value.
use Rattle.std.proofs.Common.{◌≡◌, ℕ, ◌+◌, ◌≤◌, IsSome, ap, ap₂, inl, inr, refl, subst, sym, slice_index, ◌∙◌}
use Rattle.std.proofs.lemmas.Bool.{cases_lt}
use Rattle.std.specs.Prelude.{MatchOption, Option, Some, None}
use Rattle.d64_image.proofs.Places.{place_at-found, place_at-self, place_at-some}
use Rattle.d64_image.specs.Geometry.{sectors_on}
use Rattle.d64_image.specs.Images.{Sector}
use Rattle.d64_image.specs.Places.{place_at}
use Rattle.d64_image.specs.declared.place.Place.{Place}
use Rattle.disk_layout.specs.Chain.{Names, NamesNone, named_at}

-- the place that was asked for is the one meant
pub found-is : (p q : Place) → place_at p.track p.sector ≡ Some q → q ≡ p
found-is p q at = let known = place_at-self p in let same : Some q ≡ Some p = sym at ∙ known in cc

-- the disk has each place
pub on-disk : (p : Place) → IsSome (place_at p.track p.sector)
on-disk p = subst IsSome (sym (place_at-self p)) refl

-- where the disk has no such sector
pub past-track : (t s : ℕ) → None ≡ place_at t s → sectors_on t ≤ s
past-track t s none = elim (cases_lt s (sectors_on t)) [
  | inl lt ↦ let (p, at) = place_at-found t s lt in absurd (clash p (none ∙ at))
  | inr le ↦ le
]
  where
    clash : (p : Place) → None ≡ Some p → ⊥
    clash p e = let same : Unit {0} ≡ ⊥ = cc in subst (λ (X : Type 0). X) same tt

-- the place that the bytes name is the value
pub named-is : (bytes : Sector) (i : ℕ) (p : Place) → Names bytes i p → named_at bytes i ≡ Some p
named-is bytes i p h = ap₂ place_at h.0 h.1 ∙ place_at-self p

pub named-names : (bytes : Sector) (i : ℕ) (p : Place) → named_at bytes i ≡ Some p → Names bytes i p
named-names bytes i p e = let h = place_at-some (slice_index bytes i) (slice_index bytes (i + 1)) p e in
    (sym h.0, sym h.1)

-- no value, no place
pub named-none : (bytes : Sector) (i : ℕ) → named_at bytes i ≡ None → NamesNone bytes i
named-none bytes i e q h = let both : Some q ≡ None = sym (named-is bytes i q h) ∙ e in cc

-- what a view of these bytes gives
pub named-match : (bytes viewed : Sector) (i : ℕ) (o : Option Place) → viewed ≡ bytes → o ≡ named_at viewed i
    → MatchOption o (NamesNone bytes i) (λ p. Names bytes i p)
named-match bytes viewed i None same e = named-none bytes i (sym (e ∙ ap (λ (bs : Sector). named_at bs i) same))
named-match bytes viewed i (Some p) same e = named-names bytes i p (sym (e ∙ ap (λ (bs : Sector). named_at bs i) same))

-- the place that two bytes name, where two others name it too
pub both-match : (bytes : Sector) (i : ℕ) (o : Option Place) → o ≡ named_at bytes 0
    → slice_index bytes 0 ≡ slice_index bytes i → slice_index bytes 1 ≡ slice_index bytes (i + 1)
    → MatchOption o ((q : Place) → ¬ (Names bytes 0 q × Names bytes i q)) (λ q. Names bytes 0 q × Names bytes i q)
both-match bytes i None e track at = λ q h. named-none bytes 0 (sym e) q h.0
both-match bytes i (Some p) e track at =
    let h = named-names bytes 0 p (sym e) in (h, (sym track ∙ h.0, sym at ∙ h.1))
