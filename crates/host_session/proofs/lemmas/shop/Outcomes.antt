-- What the trade rule does to the cards, as new quantities item by item.
use Rattle.std.proofs.Common.{◌≡◌, ◌⊎◌, ℕ, ◌≤◌, ◌+◌, ◌-◌, inl, inr, Bool, true, false, [], ◌∷◌, refl, sym, ◌∙◌, ap}
use Rattle.std.proofs.Common.{subst}
use Rattle.std.specs.Prelude.{Contains, IsSome, is_some, Option, Some, None, nat_lt, nat_le}
use Rattle.std.proofs.lemmas.Bool.{cond_both, false≢true, leb-true}
use Rattle.std.proofs.lemmas.List.{append-nil}
use Rattle.disk_layout.proofs.lemmas.lists.Once.{Contains-cases, Contains-nil}
use Rattle.request_cards.specs.declared.answer.Answer.{Answer}
use Rattle.request_cards.specs.declared.answer.Answer.TheVariants as answers
use Rattle.request_cards.specs.declared.decision.Outcome.{Outcome}
use Rattle.request_cards.specs.declared.decision.Room.{Room}
use Rattle.request_cards.specs.declared.decision.Room.TheVariants as rooms
use Rattle.request_cards.specs.declared.kind.Kind.{Kind}
use Rattle.request_cards.specs.declared.kind.Kind.TheVariants.{Receive, Issue, Set, Move}
use Rattle.request_cards.specs.CardTexts.{Card, is_done}
use Rattle.request_cards.specs.Ledgers.{Entry, State, applied}
use Rattle.request_cards.specs.Requests.{Ask, Body}
use Rattle.request_cards.specs.Trade.{Cards, cards_after, done, moved_to, outcome, put, refused, room_for, trade_row}
use Rattle.host_session.specs.shop.Shop.{items, open_in, overlaid, results, results_in}
use Rattle.host_session.proofs.lemmas.shop.Overlays.{open_in-answered, open_in-pending}
use Rattle.host_session.proofs.lemmas.shop.Moments.{with_card}

-- every row of the trade table is one of three
module _ (P : Outcome → Type 0) (on_done : (q : ℕ) → P (done q)) (on_moved : (h g : ℕ)
    → P (moved_to h g)) (on_refused : (a : Answer) → is_done a ≡ false → P (refused a)) where
  move-rows : (on there : Option ℕ) (room : Room) (q : ℕ) → P (trade_row on there room Move q)
  move-rows None None room q = on_refused answers.NoCard refl
  move-rows None (Some n) room q = on_refused answers.NoCard refl
  move-rows (Some n) None room q = on_refused answers.NoCard refl
  move-rows (Some on) (Some there) room q = cond_both (nat_lt on q) _ _ P
      (λ _. on_refused (answers.Short on) refl)
      (λ _. cond_both (nat_lt 999999999 (there + q)) _ _ P (λ _. on_refused (answers.Over there) refl)
      (λ _. on_moved (on - q) (there + q)))

  pub rows : (on there : Option ℕ) (room : Room) (kind : Kind) (q : ℕ) → P (trade_row on there room kind q)
  rows (Some on) there room Set q = on_done q
  rows None there rooms.Fits Set q = on_done q
  rows None there rooms.Full Set q = on_refused answers.DiskFull refl
  rows None there rooms.TooLarge Set q = on_refused answers.TooLarge refl
  rows None there room Receive q = on_refused answers.NoCard refl
  rows (Some on) there room Receive q = cond_both (nat_lt 999999999 (on + q)) _ _ P
      (λ _. on_refused (answers.Over on) refl) (λ _. on_done (on + q))
  rows None there room Issue q = on_refused answers.NoCard refl
  rows (Some on) there room Issue q = cond_both (nat_lt on q) _ _ P (λ _. on_refused (answers.Short on) refl)
      (λ _. on_done (on - q))
  rows on there room Move q = move-rows on there room q

-- an answer that isn't done changes no card
pub results-refused : (b : Body) (a : Answer) → is_done a ≡ false → results_in b a ≡ []
results-refused b (answers.Done h) e = absurd (false≢true (sym e))
results-refused b (answers.Moved h g) e = absurd (false≢true (sym e))
results-refused b (answers.Short h) e = refl
results-refused b (answers.Over h) e = refl
results-refused b answers.NoCard e = refl
results-refused b answers.DiskFull e = refl
results-refused b answers.TooLarge e = refl

-- the new cards are the old ones with the answer's quantities
pub outcome-results : (cards : Cards) (top : ℕ) (b : Body)
    → (outcome cards top b).1 ≡ overlaid (results_in b (outcome cards top b).0) cards
outcome-results cards top b = rows
    (λ (o : Outcome). cards_after (cards_after cards b.item o.quantity) b.to o.to_quantity ≡ overlaid
    (results_in b o.answer) cards)
    (λ q. refl) (λ h g. refl) (λ a e. ap (λ rs. overlaid rs cards) (sym (results-refused b a e)))
    (cards b.item) (cards b.to) (room_for top b.item) b.kind b.quantity

-- a card that holds this request with its answer, the till's kept one behind it, and is open exactly where it is done
pub card-applied : (top : ℕ) (state : State) (a : Ask) (c : Card)
    → c.newest ≡ record { number = a.number; body = a.body; answer = (outcome state.ledger.cards top a.body).0 }
    → c.second ≡ state.ledger.kept a.till
    → c.pending ≡ is_done (outcome state.ledger.cards top a.body).0
    → with_card state a.till c (overlaid (results (open_in (Some c))) state.ledger.cards) ≡ applied top state a
card-applied top state a c newest second pending =
    let answer : Answer = (outcome state.ledger.cards top a.body).0 in
    let rs : results (open_in (Some c)) ≡ results_in a.body answer = by_answer (is_done answer) refl in
    let cards : overlaid (results (open_in (Some c))) state.ledger.cards ≡ (outcome state.ledger.cards top a.body).1
    = ap (λ xs. overlaid xs state.ledger.cards) rs ∙ sym (outcome-results state.ledger.cards top a.body) in
    λ i. record {
      ledger = record { cards = cards i; kept = put state.ledger.kept a.till (Some (newest i)) };
      prior = put state.prior a.till (second i);
    }
  where
    by_answer : (t : Bool) → is_done (outcome state.ledger.cards top a.body).0 ≡ t
        → results (open_in (Some c)) ≡ results_in a.body (outcome state.ledger.cards top a.body).0
    by_answer true e = ap results (open_in-pending c (pending ∙ e))
        ∙ append-nil (results_in c.newest.body c.newest.answer) ∙ ap (λ (x : Entry). results_in x.body x.answer) newest
    by_answer false e = ap results (open_in-answered c (pending ∙ e))
        ∙ sym (results-refused a.body (outcome state.ledger.cards top a.body).0 e)

-- Which records an answer's new quantities are for: those of cards that are there, or that of a first set, up to the
-- top.
IsFits : Room → Type 0
IsFits rooms.Fits = Unit {0}
IsFits rooms.Full = ⊥
IsFits rooms.TooLarge = ⊥

abbrev IsThereOr : Body → ℕ → Option ℕ → Option ℕ → Room → Kind → Type 0
IsThereOr b r on there room kind = ((r ≡ b.item) × IsSome on)
    ⊎ (((r ≡ b.to) × IsSome there) ⊎ ((kind ≡ Set) × (r ≡ b.item) × IsFits room))

abbrev Tells : Body → ℕ → Type 0 → Outcome → Type 0
Tells b r R o = Contains (items (results_in b o.answer)) r → R

one-item : (b : Body) (q r : ℕ) → Contains (items (results_in b (answers.Done q))) r → r ≡ b.item
one-item b q r c = elim (Contains-cases r b.item [] c) [ inl e ↦ sym e | inr d ↦ absurd (Contains-nil r d) ]

none-item : (b : Body) (a : Answer) (r : ℕ) (R : Type 0) → is_done a ≡ false → Tells b r R (refused a)
none-item b a r R e c = absurd (Contains-nil r (subst (λ rs. Contains (items rs) r) (results-refused b a e) c))

there-rows : (b : Body) (r : ℕ) (on there : Option ℕ) (room : Room) (kind : Kind) (q : ℕ)
    → Tells b r (IsThereOr b r on there room kind) (trade_row on there room kind q)
unfolding IsFits
there-rows b r (Some on) there room Set q = λ c. inl (one-item b q r c, refl)
there-rows b r None there rooms.Fits Set q = λ c. inr (inr (refl, one-item b q r c, tt))
there-rows b r None there rooms.Full Set q = none-item b answers.DiskFull r _ refl
there-rows b r None there rooms.TooLarge Set q = none-item b answers.TooLarge r _ refl
there-rows b r None there room Receive q = none-item b answers.NoCard r _ refl
there-rows b r (Some on) there room Receive q =
    cond_both (nat_lt 999999999 (on + q)) _ _ (Tells b r (IsThereOr b r (Some on) there room Receive))
    (λ _. none-item b (answers.Over on) r _ refl) (λ _ c. inl (one-item b (on + q) r c, refl))
there-rows b r None there room Issue q = none-item b answers.NoCard r _ refl
there-rows b r (Some on) there room Issue q =
    cond_both (nat_lt on q) _ _ (Tells b r (IsThereOr b r (Some on) there room Issue))
    (λ _. none-item b (answers.Short on) r _ refl) (λ _ c. inl (one-item b (on - q) r c, refl))
there-rows b r None None room Move q = none-item b answers.NoCard r _ refl
there-rows b r None (Some n) room Move q = none-item b answers.NoCard r _ refl
there-rows b r (Some n) None room Move q = none-item b answers.NoCard r _ refl
there-rows b r (Some on) (Some there) room Move q =
    cond_both (nat_lt on q) _ _ (Tells b r (IsThereOr b r (Some on) (Some there) room Move))
    (λ _. none-item b (answers.Short on) r _ refl)
    (λ _. cond_both (nat_lt 999999999 (there + q)) _ _ (Tells b r (IsThereOr b r (Some on) (Some there) room Move))
    (λ _. none-item b (answers.Over there) r _ refl)
    (λ _ c. elim (Contains-cases r b.item (b.to ∷ []) c) [
      | inl e ↦ inl (sym e, refl)
      | inr d ↦ elim (Contains-cases r b.to [] d) [
        | inl e ↦ inr (inl (sym e, refl))
        | inr n ↦ absurd (Contains-nil r n)
      ]
    ]))

fits-top : (top item : ℕ) → IsFits (room_for top item) → item ≤ top
unfolding IsFits
fits-top top item = cond_both (nat_le item top) _ _ (λ (x : Room). IsFits x → item ≤ top)
    (λ e _. leb-true item top e)
    (λ _. cond_both (nat_le item 10160) _ _ (λ (x : Room). IsFits x → item ≤ top) (λ _ h. absurd h) (λ _ h. absurd h))

pub outcome-there : (cards : Cards) (top : ℕ) (b : Body) (r : ℕ)
    → Contains (items (results_in b (outcome cards top b).0)) r
    → IsSome (cards r) ⊎ ((b.kind ≡ Set) × (r ≡ b.item) × (b.item ≤ top))
outcome-there cards top b r c =
    elim (there-rows b r (cards b.item) (cards b.to) (room_for top b.item) b.kind b.quantity c) [
      | inl x ↦ inl (ap (λ k. is_some (cards k)) x.0 ∙ x.1)
      | inr y ↦ elim y [
        | inl x ↦ inl (ap (λ k. is_some (cards k)) x.0 ∙ x.1)
        | inr x ↦ inr (x.0, x.1, fits-top top b.item x.2)
      ]
    ]
