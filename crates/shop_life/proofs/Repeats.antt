-- A request that counted, asked again before its till's next one, hears what it heard first.
use Rattle.std.proofs.Common.{◌≡◌, ◌≢◌, ◌+◌, ◌≤◌, ℕ, Bool, true, false, List, [], ◌∷◌, ◌++◌, Option, Some, None, ◌∙◌, ap}
use Rattle.std.proofs.Common.{append_assoc, append-nil, arith, eq-eqb, ne_eqb, refl, subst, sym, inl, inr}
use Rattle.std.specs.Prelude.{◌==◌, ◌&&◌, if◌then◌else◌, nat_le, nat_lt}
use Rattle.std.proofs.lemmas.Bool.{and_from, cases_Bool, cases_lt, le-ltb, lt-ltb}
use Rattle.std.proofs.lemmas.Bool.Decides.{eqb_tells, nat_tests}
use Rattle.request_cards.specs.declared.kind.Kind.{Kind}
use Rattle.request_cards.specs.declared.kind.Kind.TheVariants.{Issue, Move, Receive, Set}
use Rattle.request_cards.specs.declared.answer.Answer.{Answer}
use Rattle.request_cards.specs.declared.reply.Reply.TheVariants.{Told}
use Rattle.request_cards.specs.declared.reply.Word.{Word}
use Rattle.request_cards.specs.declared.reply.Word.TheVariants.{Ahead, Kept, NoTill}
use Rattle.request_cards.specs.declared.standing.Standing.TheVariants.{New, Settled}
use Rattle.request_cards.specs.Ledgers.{Entry, Start, State, after, applied, entry_of, next_in, number_of, plain, reply}
use Rattle.request_cards.specs.Ledgers.{standing, standing_at, told_again, told_late, word_in, word_on}
use Rattle.request_cards.specs.Requests.{Ask, Body, same_body, same_kind}
use Rattle.request_cards.specs.Trade.{outcome}
use Rattle.request_cards.proofs.Fairness.{next_new}
use Rattle.request_cards.proofs.Plain.{plain_more}
use Rattle.shop_life.specs.OneList.{NoneOfTill}

-- the request's word is settled by what is kept of its till
abbrev IsSettledTo : Start → State → Ask → Word → Type 0
IsSettledTo start state a w = standing start.tills (state.ledger.kept a.till) (state.prior a.till) a ≡ Settled w

-- a request of another till leaves what is kept of this one
other_kept : (top : ℕ) (state : State) (b : Ask) (till : ℕ) (c : Bool) → b.till ≢ till
    → (if c then applied top state b else state).ledger.kept till ≡ state.ledger.kept till
other_kept top state b till true h = rw (ne_eqb till b.till (λ e. h (sym e))) refl
other_kept top state b till false h = refl

other_prior : (top : ℕ) (state : State) (b : Ask) (till : ℕ) (c : Bool) → b.till ≢ till
    → (if c then applied top state b else state).prior till ≡ state.prior till
other_prior top state b till true h = rw (ne_eqb till b.till (λ e. h (sym e))) refl
other_prior top state b till false h = refl

other_settled : (start : Start) (state : State) (b a : Ask) (w : Word) → b.till ≢ a.till
    → IsSettledTo start state a w → IsSettledTo start (after start state b) a w
other_settled start state b a w h settled =
    rw (
      other_kept start.top state b a.till (next_in start state b) h,
      other_prior start.top state b a.till (next_in start state b) h,
    ) settled

-- so do any number of them
all_settled : (start : Start) (before later : List Ask) (a : Ask) (w : Word) → NoneOfTill a later
    → IsSettledTo start (plain start before) a w → IsSettledTo start (plain start (before ++ later)) a w
all_settled start before [] a w none settled =
    subst (λ (xs : List Ask). IsSettledTo start (plain start xs) a w) (sym (append-nil before)) settled
all_settled start before (b ∷ later) a w none settled =
    subst (λ (xs : List Ask). IsSettledTo start (plain start xs) a w) (append_assoc before (b ∷ []) later)
    (all_settled start (before ++ b ∷ []) later a w none.1
    (subst (λ (state : State). IsSettledTo start state a w) (sym (plain_more start before b))
    (other_settled start (plain start before) b a w none.0 settled)))

-- a body is the same as itself
same_kind-refl : (k : Kind) → same_kind k k ≡ true
same_kind-refl Receive = refl
same_kind-refl Issue = refl
same_kind-refl Set = refl
same_kind-refl Move = refl

same_body-refl : (b : Body) → same_body b b ≡ true
same_body-refl b =
    and_from _ _ (same_kind-refl b.kind)
    (and_from _ _ (eq-eqb b.item b.item refl)
    (and_from _ _ (eq-eqb b.quantity b.quantity refl) (eq-eqb b.to b.to refl)))

-- what the till was answered last, it is answered again
last_again : (prior : Option Entry) (a : Ask) (answer : Answer)
    → standing_at (Some (entry_of (a, answer))) prior a ≡ Settled (Kept answer)
last_again prior a answer =
    rw (
      le-ltb a.number a.number (omega arith),
      eq-eqb a.number a.number refl,
      same_body-refl a.body,
    ) refl

there : (till tills number last : ℕ) → (nat_le till tills && number == last + 1) ≡ true → nat_lt tills till ≡ false
there till tills number last e = grind (arith, nat_tests)

next_number : (till tills number last : ℕ) → (nat_le till tills && number == last + 1) ≡ true → number ≡ last + 1
next_number till tills number last e = grind (arith, nat_tests)

is_next : (till tills number last : ℕ) → till ≤ tills → number ≡ last + 1 → (nat_le till tills && number == last + 1) ≡ true
is_next till tills number last low same = grind (arith, nat_tests)

not_both : (b : Bool) → b ≡ true → b ≡ false → ⊥
not_both b e f = let g : true ≡ false = sym e ∙ f in cc

-- a request that isn't its till's next one has a word that stays
settles_at : (tills : ℕ) (kept prior : Option Entry) (a : Ask) → 1 ≤ a.number → a.till ≤ tills
    → (nat_le a.till tills && a.number == number_of kept + 1) ≡ false
    → (w : Word) × (standing_at kept prior a ≡ Settled w)
settles_at tills None prior a low here other = elim (cases_lt 1 a.number) [
  | inl far ↦ rw (lt-ltb 1 a.number far) (Ahead, refl)
  | inr first ↦ absurd (not_both _ (is_next a.till tills a.number 0 here (omega (arith, low, first))) other)
]
settles_at tills (Some k) prior a low here other = elim (cases_lt a.number k.number) [
  | inl late ↦ rw (lt-ltb a.number k.number late) (told_late prior a, refl)
  | inr high ↦ elim (eqb_tells a.number k.number) [
    | inl same ↦ rw (le-ltb a.number k.number high, same.0) (told_again k a, refl)
    | inr more ↦ elim (cases_lt (k.number + 1) a.number) [
      | inl far ↦ rw (le-ltb a.number k.number high, more.0, lt-ltb (k.number + 1) a.number far) (Ahead, refl)
      | inr next ↦ absurd (not_both _ (is_next a.till tills a.number k.number here (after_it high next more.1)) other)
    ]
  ]
]
  where
    after_it : k.number ≤ a.number → a.number ≤ k.number + 1 → (a.number ≡ k.number → ⊥) → a.number ≡ k.number + 1
    after_it high next more = omega (arith, high, next, more)

settles : (tills : ℕ) (kept prior : Option Entry) (a : Ask) → 1 ≤ a.number
    → (nat_le a.till tills && a.number == number_of kept + 1) ≡ false
    → (w : Word) × (standing tills kept prior a ≡ Settled w)
settles tills kept prior a low other = elim (cases_lt tills a.till) [
  | inl past ↦ rw (lt-ltb tills a.till past) (NoTill, refl)
  | inr here ↦ rw (le-ltb tills a.till here) (settles_at tills kept prior a low here other)
]

-- a request that was asked is settled to the word that it was told
counted_settles : (start : Start) (state : State) (a : Ask) → 1 ≤ a.number
    → IsSettledTo start (after start state a) a (word_in start state a)
counted_settles start state a low = elim (cases_Bool (next_in start state a)) [
  | inl e ↦ pick true e
  | inr e ↦ pick false e
]
  where
    answer : Answer
    answer = (outcome state.ledger.cards start.top a.body).0

    pick : (c : Bool) → next_in start state a ≡ c
        → IsSettledTo start (after start state a) a (word_in start state a)
    pick true e =
        let number = next_number a.till start.tills a.number (number_of (state.ledger.kept a.till)) e in
        rw (
          e,
          there a.till start.tills a.number (number_of (state.ledger.kept a.till)) e,
          next_new (state.ledger.kept a.till) (state.prior a.till) a number,
          eq-eqb a.till a.till refl,
        ) (last_again (state.ledger.kept a.till) a (outcome state.ledger.cards start.top a.body).0)
    pick false e =
        let x = settles start.tills (state.ledger.kept a.till) (state.prior a.till) a low e in
        rw (e, x.1) refl

-- and stays so before another request of its till
settled_so : (start : Start) (before later : List Ask) (a : Ask) → 1 ≤ a.number → NoneOfTill a later
    → IsSettledTo start (plain start (before ++ a ∷ later)) a (word_in start (plain start before) a)
settled_so start before later a low none =
    let w = word_in start (plain start before) a in
    let first : IsSettledTo start (plain start (before ++ a ∷ [])) a w =
    subst (λ (state : State). IsSettledTo start state a w) (sym (plain_more start before a))
    (counted_settles start (plain start before) a low) in
    subst (λ (xs : List Ask). IsSettledTo start (plain start xs) a w) (append_assoc before (a ∷ []) later)
    (all_settled start (before ++ a ∷ []) later a w none first)

-- asked again then, it is told so
pub told_so_again : (start : Start) (before later : List Ask) (a : Ask) → 1 ≤ a.number → NoneOfTill a later
    → reply start (before ++ a ∷ later) (Some a) ≡ reply start before (Some a)
told_so_again start before later a low none =
    ap (λ x. Told a.till a.number (word_on x (outcome (plain start (before ++ a ∷ later)).ledger.cards start.top a.body).0))
    (settled_so start before later a low none)

-- and it counts no more
pub counts_no_more : (start : Start) (before later : List Ask) (a : Ask) → 1 ≤ a.number → NoneOfTill a later
    → plain start ((before ++ a ∷ later) ++ a ∷ []) ≡ plain start (before ++ a ∷ later)
counts_no_more start before later a low none =
    let state = plain start (before ++ a ∷ later) in
    plain_more start (before ++ a ∷ later) a ∙ stays (next_in start state a) refl
  where
    stays : (c : Bool) → next_in start (plain start (before ++ a ∷ later)) a ≡ c
        → after start (plain start (before ++ a ∷ later)) a ≡ plain start (before ++ a ∷ later)
    stays false e = rw e refl
    stays true e =
        let state = plain start (before ++ a ∷ later) in
        let number = next_number a.till start.tills a.number (number_of (state.ledger.kept a.till)) e in
        let new : standing start.tills (state.ledger.kept a.till) (state.prior a.till) a ≡ New =
        rw (there a.till start.tills a.number (number_of (state.ledger.kept a.till)) e)
        (next_new (state.ledger.kept a.till) (state.prior a.till) a number) in
        let z : New ≡ Settled (word_in start (plain start before) a) = sym new ∙ settled_so start before later a low none in
        absurd cc
