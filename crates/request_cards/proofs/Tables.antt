-- What the tables of a ledger hold, and what a request changes in them.
use Rattle.std.proofs.Common.{ℕ, zero, suc, ◌≡◌, ◌≢◌, ◌≤◌, ◌<◌, ◌+◌, ◌-◌, inl, inr, Bool, true, false, List, [], ◌∷◌, None}
use Rattle.std.proofs.Common.{Option, Some, add-one, ap, ap₂, arith, get_or, length, refl, replicate, set, subst, sym, ◌∙◌}
use Rattle.std.specs.Prelude.{IfNone, IfSome, if◌then◌else◌, nat_le, nat_lt, option_map, ◌==◌}
use Rattle.std.proofs.lemmas.Bool.{and_parts, cases_Bool, cases_eq, eq-eqb, eqb-true, ltb-false, ne_eqb}
use Rattle.std.proofs.lemmas.List.{get_or-set_other, get_or-set_same}
use Rattle.request_cards.specs.declared.answer.Answer.{Answer}
use Rattle.request_cards.specs.declared.decision.Outcome.{Outcome}
use Rattle.request_cards.specs.declared.decision.Room.{Room}
use Rattle.request_cards.specs.declared.decision.Room.TheVariants as rooms
use Rattle.request_cards.specs.declared.kind.Kind.{Kind}
use Rattle.request_cards.specs.declared.kind.Kind.TheVariants.{Receive, Issue, Set, Move}
use Rattle.request_cards.specs.declared.ledger.Ledger.{Ledger}
use Rattle.request_cards.specs.CardTexts.{Card, IsEntry}
use Rattle.request_cards.specs.Ledgers.{Entry, Start, State, after, applied, entry_of, next_in, nothing, number_of}
use Rattle.request_cards.specs.Requests.{Ask, Body, IsAsk}
use Rattle.request_cards.specs.Tables.{IsWithin, limits_of, newest_in, nth, renewed, second_in, state_in, held_by}
use Rattle.request_cards.specs.Tables.{told_of, traded}
use Rattle.request_cards.specs.Trade.{Cards, cards_after, put, room_for, trade, trade_row}
use Rattle.request_cards.proofs.Kept.{answer_is_kept}

-- one entry of a table changed
pub nth-at : {X : Type 0} (xs : List (Option X)) (k : ℕ) → nth xs (k + 1) ≡ get_or xs k None
nth-at xs k =
    let zero_not : (k + 1 ≡ 0 → ⊥) = λ e. omega (arith, e) in
    let down : (k + 1) - 1 ≡ k = omega arith in
    rw (ne_eqb (k + 1) 0 zero_not) (ap (λ n. get_or xs n None) down)

pub nth-set_same : {X : Type 0} (xs : List (Option X)) (k : ℕ) (x : Option X) → k < length xs
    → nth (set xs k x) (k + 1) ≡ x
nth-set_same xs k x lt = nth-at (set xs k x) k ∙ get_or-set_same xs k x None lt

pub nth-set_other : {X : Type 0} (xs : List (Option X)) (k n : ℕ) (x : Option X) → n ≢ k + 1
    → nth (set xs k x) n ≡ nth xs n
nth-set_other xs k zero x ne = refl
nth-set_other xs k (suc n) x ne =
    let up : n + 1 ≡ suc n = add-one n in
    ap (nth (set xs k x)) (sym up) ∙ nth-at (set xs k x) n
    ∙ get_or-set_other xs k n x None (λ e. ne (sym up ∙ ap (λ j. j + 1) e)) ∙ sym (nth-at xs n) ∙ ap (nth xs) up

-- a table in which nothing stands
pub nth-none : (X : Type 0) (n t : ℕ) → nth {X = X} (replicate n None) t ≡ None
nth-none X n zero = refl
nth-none X n (suc t) = ap (nth {X = X} (replicate n None)) (sym (add-one t)) ∙ nth-at {X = X} (replicate n None) t
    ∙ blank X n t
  where
    blank : (X : Type 0) (n t : ℕ) → get_or {A = Option X} (replicate n None) t None ≡ None
    blank X zero t = refl
    blank X (suc n) zero = refl
    blank X (suc n) (suc t) = blank X n t

-- a table with one place changed
module _ {X : Type 0} (xs : List (Option X)) (n : ℕ) (x : Option X) (low : 1 ≤ n) (high : n ≤ length xs) where
  set-at : (k : ℕ) → nth (set xs (n - 1) x) k ≡ put (nth xs) n x k
  set-at k = elim (cases_eq k n) [
    | inl e ↦ rw (eq-eqb k n e, ne_eqb k 0 (λ z. omega (arith, z, e, low)))
        (ap (λ (j : ℕ). get_or (set xs (n - 1) x) (j - 1) None) e
        ∙ get_or-set_same xs (n - 1) x None (omega (arith, low, high)))
    | inr d ↦ elim (cases_eq k 0) [
      | inl z ↦ rw (eq-eqb k 0 z, ne_eqb k n d) refl
      | inr z ↦ rw (ne_eqb k 0 z, ne_eqb k n d) (get_or-set_other xs (n - 1) (k - 1) x None
          (λ s. d (omega (arith, low, s, z))))
    ]
  ]

  pub nth-set : nth (set xs (n - 1) x) ≡ put (nth xs) n x
  nth-set = λ i k. set-at k i

-- blank tables hold nothing
pub state-nothing : (l : Ledger) → l.cards ≡ replicate 10160 None → l.requests ≡ replicate 64 None
    → held_by l ≡ nothing
state-nothing l cards requests = ap₂ state_in cards requests ∙ (λ i. record {
  ledger = record {
    cards = λ k. nth-none ℕ 10160 k i;
    kept = λ t. newest_in (nth-none Card 64 t i);
  };
  prior = λ t. second_in (nth-none Card 64 t i);
})

pub within-nothing : (l : Ledger) → l.cards ≡ replicate 10160 None → l.top ≤ 10160 → IsWithin l
within-nothing l cards top = record {
  top = top;
  few = λ k. subst (λ (o : Option ℕ). IfSome o (λ q. q ≤ 999999999))
      (sym (ap (λ (xs : List (Option ℕ)). nth xs k) cards ∙ nth-none ℕ 10160 k)) tt;
}

-- what is read of a map with a new value
put-through : {X Y : Type 0} (g : X → Y) (f : ℕ → X) (k : ℕ) (x : X) (t : ℕ)
    → g (put f k x t) ≡ put (λ j. g (f j)) k (g x) t
put-through g f k x t = by (t == k)
  where
    by : (b : Bool) → g (if b then x else f t) ≡ (if b then (g x) else (g (f t)))
    by true = refl
    by false = refl

-- Both tables with what a request changed are the state with it.
pub tables-renewed : (cards first second : List (Option ℕ)) (requests new : List (Option Card)) (a : Ask) (o : Outcome)
    (c : Card)
    → nth first ≡ cards_after (nth cards) a.body.item o.quantity
    → nth second ≡ cards_after (nth first) a.body.to o.to_quantity → nth new ≡ put (nth requests) a.till (Some c)
    → state_in second new ≡ renewed (state_in cards requests) a o c
tables-renewed cards first second requests new a o c item to till = λ i. record {
  ledger = record {
    cards = (to ∙ ap (λ (f : Cards). cards_after f a.body.to o.to_quantity) item) i;
    kept = λ t. (ap (λ (f : ℕ → Option Card). newest_in (f t)) till
        ∙ put-through newest_in (nth requests) a.till (Some c) t) i;
  };
  prior = λ t. (ap (λ (f : ℕ → Option Card). second_in (f t)) till
      ∙ put-through second_in (nth requests) a.till (Some c) t) i;
}

-- where the outcome is the trade rule's, and the card has the request with its answer, the till's last one before it
pub renewed-applied : (top : ℕ) (state : State) (a : Ask) (o : Outcome) (c : Card)
    → o ≡ traded state.ledger.cards top a.body → c.newest ≡ entry_of (a, o.answer) → c.second ≡ state.ledger.kept a.till
    → renewed state a o c ≡ applied top state a
renewed-applied top state a o c is newest second = λ i. record {
  ledger = record {
    cards = cards_after (cards_after state.ledger.cards a.body.item (is i).quantity) a.body.to (is i).to_quantity;
    kept = put state.ledger.kept a.till (Some ((newest ∙ ap (λ (x : Outcome). entry_of (a, x.answer)) is) i));
  };
  prior = put state.prior a.till (second i);
}

-- what is kept of a till, as it is returned
told-entry : (till : ℕ) (o : Option Entry) → option_map entry_of (option_map (told_of till) o) ≡ o
told-entry till None = refl
told-entry till (Some e) = refl

-- what is kept of the till whose number was read
pub told-here : (r : Option (Ask × Answer)) (till read : ℕ) (f : ℕ → Option Entry) → read ≡ till
    → r ≡ option_map (told_of read) (f read) → option_map entry_of r ≡ f till
told-here r till read f same is = ap (option_map entry_of) is ∙ told-entry read (f read) ∙ ap f same

pub prior-told : (r : Option (Ask × Answer)) (second : Option Entry) (till : ℕ)
    → IfSome r (λ p. option_map (told_of till) second ≡ Some p) → IfNone r ((1 ≤ till) × (till ≤ 64) → second ≡ None)
    → (1 ≤ till) × (till ≤ 64) → r ≡ option_map (told_of till) second
prior-told (Some p) second till some none within = sym some
prior-told None second till some none within = sym (ap (option_map (told_of till)) (none within))

-- a quantity that a card can hold
abbrev IsFew : Option ℕ → Type 0
IsFew o = IfSome o (λ q. q ≤ 999999999)

few-after : (cards : Cards) (item : ℕ) (quantity : Option ℕ) → ((k : ℕ) → IsFew (cards k)) → IsFew quantity → (k : ℕ)
    → IsFew (cards_after cards item quantity k)
few-after cards item None few new k = few k
few-after cards item (Some q) few new k = by (k == item)
  where
    by : (b : Bool) → IsFew (if b then (Some q) else (cards k))
    by true = new
    by false = few k

row-few : (k : Kind) (q : ℕ) (on there : Option ℕ) (room : Room) → q ≤ 999999999 → IsFew on → IsFew there
    → IsFew (trade_row on there room k q).quantity × IsFew (trade_row on there room k q).to_quantity
row-few Set q (Some on) there room h i j = (h, tt)
row-few Set q None there rooms.Fits h i j = (h, tt)
row-few Set q None there rooms.Full h i j = (tt, tt)
row-few Set q None there rooms.TooLarge h i j = (tt, tt)
row-few Receive q None there room h i j = (tt, tt)
row-few Receive q (Some on) there room h i j = elim (cases_Bool (nat_lt 999999999 (on + q))) [
  | inl over ↦ rw over (tt, tt)
  | inr fits ↦ rw fits (ltb-false 999999999 (on + q) fits, tt)
]
row-few Issue q None there room h i j = (tt, tt)
row-few Issue q (Some on) there room h i j = elim (cases_Bool (nat_lt on q)) [
  | inl short ↦ rw short (tt, tt)
  | inr fits ↦ rw fits (omega (arith, i), tt)
]
row-few Move q None there room h i j = (tt, tt)
row-few Move q (Some on) None room h i j = (tt, tt)
row-few Move q (Some on) (Some there) room h i j = elim (cases_Bool (nat_lt on q)) [
  | inl short ↦ rw short (tt, tt)
  | inr enough ↦ elim (cases_Bool (nat_lt 999999999 (there + q))) [
    | inl over ↦ rw (enough, over) (tt, tt)
    | inr fits ↦ rw (enough, fits) (omega (arith, i), ltb-false 999999999 (there + q) fits)
  ]
]

-- a request that is its till's next one, decided and put into the tables
module _ (l : Ledger) (w : IsWithin l) (a : Ask) (is : IsAsk a) (o : Outcome)
    (rule : o ≡ traded (nth l.cards) l.top a.body) where
  pub within-entry : IsEntry (entry_of (a, o.answer))
  within-entry = subst (λ (x : Outcome). IsEntry (entry_of (a, x.answer))) (sym rule)
      (answer_is_kept a (nth l.cards a.body.item) (nth l.cards a.body.to) (room_for l.top a.body.item) is
      (w.few a.body.item) (w.few a.body.to))

  module _ (m : Ledger) (limits : limits_of m ≡ limits_of l) (c : Card)
      (state : held_by m ≡ renewed (held_by l) a o c) where
    pub within-after : IsWithin m
    within-after =
        let row = row-few a.body.kind a.body.quantity (nth l.cards a.body.item) (nth l.cards a.body.to)
        (room_for l.top a.body.item) is.body.quantity_high (w.few a.body.item) (w.few a.body.to) in
        let item : IsFew o.quantity = subst (λ (x : Outcome). IsFew x.quantity) (sym rule) row.0 in
        let to : IsFew o.to_quantity = subst (λ (x : Outcome). IsFew x.to_quantity) (sym rule) row.1 in
        record {
          top = subst (λ (s : Start). s.top ≤ 10160) (sym limits) w.top;
          few = λ k. subst (λ (s : State). IsFew (s.ledger.cards k)) (sym state)
              (few-after (cards_after (nth l.cards) a.body.item o.quantity) a.body.to o.to_quantity
              (few-after (nth l.cards) a.body.item o.quantity w.few item) to k);
        }

    pub state-after : next_in (limits_of l) (held_by l) a ≡ true → c.newest ≡ entry_of (a, o.answer)
        → c.second ≡ newest_in (nth l.requests a.till) → held_by m ≡ after (limits_of l) (held_by l) a
    state-after next newest second = state ∙ renewed-applied l.top (held_by l) a o c rule newest second
        ∙ sym (ap (λ (b : Bool). if b then (applied l.top (held_by l) a) else (held_by l)) next)

-- the number of the next request
pub next-number : (l : Ledger) (a : Ask) → next_in (limits_of l) (held_by l) a ≡ true
    → a.number ≡ number_of ((held_by l).ledger.kept a.till) + 1
next-number l a next = eqb-true a.number (number_of ((held_by l).ledger.kept a.till) + 1)
    (and_parts (nat_le a.till l.tills) (a.number == number_of ((held_by l).ledger.kept a.till) + 1) next).1
