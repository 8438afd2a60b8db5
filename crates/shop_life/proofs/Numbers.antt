-- A till's number only grows with the list.
use Rattle.std.proofs.Common.{◌≡◌, ◌∙◌, ◌≤◌, ◌+◌, ℕ, Bool, true, false, List, [], ◌∷◌, ◌++◌}
use Rattle.std.proofs.Common.{ap, append-nil, append_assoc, arith, eq-eqb, inl, inr, le_refl, ne_eqb, refl, subst, sym}
use Rattle.std.proofs.lemmas.Bool.{and_right}
use Rattle.std.proofs.lemmas.Bool.Decides.{eqb_tells}
use Rattle.std.specs.Prelude.{◌==◌, if◌then◌else◌, nat_le}
use Rattle.request_cards.proofs.Plain.{plain_more}
use Rattle.request_cards.specs.Ledgers.{Start, State, applied, next_in, number_of, plain}
use Rattle.request_cards.specs.Requests.{Ask}

number_kept : (top : ℕ) (state : State) (a : Ask) (till : ℕ)
    → number_of ((applied top state a).ledger.kept till)
    ≡ (if a.till == till then a.number else number_of (state.ledger.kept till))
number_kept top state a till = elim (eqb_tells till a.till) [
  | inl h ↦ rw (h.0, eq-eqb a.till till (sym h.1)) refl
  | inr h ↦ rw (h.0, ne_eqb a.till till (λ e. h.1 (sym e))) refl
]

next_number : (start : Start) (state : State) (a : Ask) → next_in start state a ≡ true
    → a.number ≡ number_of (state.ledger.kept a.till) + 1
next_number start state a next = elim (eqb_tells a.number (number_of (state.ledger.kept a.till) + 1)) [
  | inl p ↦ p.1
  | inr q ↦
      let e : true ≡ false = sym next ∙ and_right (nat_le a.till start.tills) (a.number == number_of (state.ledger.kept a.till) + 1) q.0 in cc
]

-- a till's number only grows
one_up : (start : Start) (state : State) (a : Ask) (t : ℕ) (b : Bool) → next_in start state a ≡ b
    → number_of (state.ledger.kept t) ≤ number_of ((if b then applied start.top state a else state).ledger.kept t)
one_up start state a t false next = le_refl (number_of (state.ledger.kept t))
one_up start state a t true next = elim (eqb_tells a.till t) [
  | inl p ↦
      let e : number_of ((applied start.top state a).ledger.kept t) ≡ a.number =
      number_kept start.top state a t ∙ ap (λ b. if b then a.number else number_of (state.ledger.kept t)) p.0 in
      let f : a.number ≡ number_of (state.ledger.kept t) + 1 =
      next_number start state a next ∙ ap (λ k. number_of (state.ledger.kept k) + 1) p.1 in
      omega (arith, e, f)
  | inr q ↦
      let e : number_of ((applied start.top state a).ledger.kept t) ≡ number_of (state.ledger.kept t) =
      number_kept start.top state a t ∙ ap (λ b. if b then a.number else number_of (state.ledger.kept t)) q.0 in
      omega (arith, e)
]

trans : (a b c : ℕ) → a ≤ b → b ≤ c → a ≤ c
trans a b c x y = omega (arith, x, y)

pub ups : (start : Start) (before more : List Ask) (t : ℕ)
    → number_of ((plain start before).ledger.kept t) ≤ number_of ((plain start (before ++ more)).ledger.kept t)
ups start before [] t =
    subst (λ xs. number_of ((plain start before).ledger.kept t) ≤ number_of ((plain start xs).ledger.kept t))
    (sym (append-nil before)) (le_refl (number_of ((plain start before).ledger.kept t)))
ups start before (a ∷ more) t =
    trans (number_of ((plain start before).ledger.kept t)) (number_of ((plain start (before ++ a ∷ [])).ledger.kept t))
    (number_of ((plain start (before ++ a ∷ more)).ledger.kept t))
    (subst (λ (x : State). number_of ((plain start before).ledger.kept t) ≤ number_of (x.ledger.kept t))
    (sym (plain_more start before a))
    (one_up start (plain start before) a t (next_in start (plain start before) a) refl))
    (subst (λ xs. number_of ((plain start (before ++ a ∷ [])).ledger.kept t) ≤ number_of ((plain start xs).ledger.kept t))
    (append_assoc before (a ∷ []) more) (ups start (before ++ a ∷ []) more t))
