-- The new quantities that an answer gives, and what they make of the cards.
use Rattle.std.proofs.Common.{ℕ, ◌≡◌, ◌≢◌, ◌⊎◌, inl, inr, List, [], ◌∷◌, None, Option, Some, true, IsTrue, ap, refl}
use Rattle.std.proofs.Common.{subst, sym, ◌∙◌}
use Rattle.std.specs.Prelude.{Contains, IsSome, is_some}
use Rattle.std.proofs.lemmas.Bool.{cases_eq, eq-eqb, false≢true, ne_eqb}
use Rattle.std.proofs.lemmas.Option.{none-some}
use Rattle.disk_layout.proofs.lemmas.lists.Once.{Contains-cases, Contains-here, Contains-nil, Contains-there}
use Rattle.request_cards.specs.declared.answer.Answer.{Answer}
use Rattle.request_cards.specs.declared.answer.Answer.TheVariants as answers
use Rattle.request_cards.specs.declared.kind.Kind.TheVariants.{Move}
use Rattle.request_cards.specs.CardTexts.{Card, IsCard, goes_with}
use Rattle.request_cards.specs.Requests.{same_kind, to_of}
use Rattle.request_cards.specs.Trade.{Cards, put}
use Rattle.host_session.specs.shop.LoadedShop.{no_cards}
use Rattle.host_session.specs.shop.Shop.{items, overlaid}

-- a move's answer is kept for a move, which has an item to go to
pub moved-to : (c : Card) (h g : ℕ) → IsCard c → c.newest.answer ≡ answers.Moved h g
    → to_of c.newest.body ≡ Some c.newest.body.to
moved-to c h g fits e =
    let P : Answer → Type 0 = λ a. IsTrue (goes_with c.newest.body.kind a) in
    let is_move : same_kind c.newest.body.kind Move ≡ true = subst P e fits.newest.fits in
    rw is_move refl

-- Each item has a new quantity, whatever its card was, or none, and then its card stays.
abbrev pub Overlays : List (ℕ × ℕ) → ℕ → Type 0
Overlays rs item = (Contains (items rs) item × ((f g : Cards) → overlaid rs f item ≡ overlaid rs g item)
    × ((f : Cards) → IsSome (overlaid rs f item)))
    ⊎ (¬ (Contains (items rs) item) × ((f : Cards) → overlaid rs f item ≡ f item))

pub overlays : (rs : List (ℕ × ℕ)) (item : ℕ) → Overlays rs item
overlays [] item = inr (Contains-nil item, λ f. refl)
overlays (r ∷ rs) item = elim (overlays rs item) [
  | inl (has, same, some) ↦ inl (
    Contains-there item r.0 (items rs) has,
    λ f g. same (put f r.0 (Some r.1)) (put g r.0 (Some r.1)),
    λ f. some (put f r.0 (Some r.1)),
  )
  | inr (none, under) ↦ by none under (cases_eq item r.0)
]
  where
    by : ¬ (Contains (items rs) item) → ((f : Cards) → overlaid rs f item ≡ f item) → (item ≡ r.0) ⊎ (item ≢ r.0)
        → Overlays (r ∷ rs) item
    by none under (inl e) =
        let now : (f : Cards) → overlaid rs (put f r.0 (Some r.1)) item ≡ Some r.1 = λ f. under (put f r.0 (Some r.1))
        ∙ rw (eq-eqb item r.0 e) refl in
        inl (
          subst (λ (k : ℕ). Contains (r.0 ∷ items rs) k) (sym e) (Contains-here r.0 (items rs)),
          λ f g. now f ∙ sym (now g),
          λ f. ap is_some (now f),
        )
    by none under (inr ne) = inr (
      λ has. elim (Contains-cases item r.0 (items rs) has) [ inl e ↦ ne (sym e) | inr m ↦ none m ],
      λ f. under (put f r.0 (Some r.1)) ∙ rw (ne_eqb item r.0 ne) refl,
    )

-- where an item has a new quantity, that is what is on hand, and else what was
module _ (rs : List (ℕ × ℕ)) (item : ℕ) (f : Cards) where
  pub given-some : (q : ℕ) → overlaid rs no_cards item ≡ Some q → Contains (items rs) item
      × (overlaid rs f item ≡ Some q)
  given-some q e = elim (overlays rs item) [
    | inl (has, same, some) ↦ (has, same f no_cards ∙ e)
    | inr (none, under) ↦ absurd (none-some q (sym (under no_cards) ∙ e))
  ]

  pub given-none : overlaid rs no_cards item ≡ None → ¬ (Contains (items rs) item) × (overlaid rs f item ≡ f item)
  given-none e = elim (overlays rs item) [
    | inl (has, same, some) ↦ absurd (no_some (overlaid rs no_cards item) e (some no_cards))
    | inr (none, under) ↦ (none, under f)
  ]
    where
      no_some : (o : Option ℕ) → o ≡ None → IsSome o → ⊥
      no_some None e s = false≢true s
      no_some (Some q) e s = none-some q (sym e)
