-- Open intents of cards, of which one changes, and what lies over the quantities on hand.
use Rattle.std.proofs.Common.{◌≡◌, ◌≢◌, ℕ, zero, suc, ◌≤◌, ◌+◌, inl, inr, Bool, true, false, List, [], ◌∷◌, ◌++◌}
use Rattle.std.proofs.Common.{length, refl, sym, ◌∙◌, ap, arith, append_assoc, length-append}
use Rattle.std.specs.Prelude.{Contains, IsSome, is_some, Option, Some, None, slice_get, set, cond}
use Rattle.std.specs.List.{AllByRecursion}
use Rattle.std.proofs.lemmas.Bool.{cases_eq, eq-eqb, ne_eqb}
use Rattle.std.proofs.lemmas.List.{nil_from_length, append-nil}
use Rattle.std.proofs.lemmas.Option.{none-some, same_Some}
use Rattle.disk_layout.proofs.lemmas.lists.Once.{Contains-cases, Contains-nil}
use Rattle.request_cards.specs.CardTexts.{Card}
use Rattle.request_cards.specs.Trade.{Cards, put}
use Rattle.host_session.specs.shop.Files.{record_at, with_record}
use Rattle.host_session.specs.shop.Shop.{intents, items, open_in, overlaid}

-- nothing stands in either of two lists that join to nothing
pub nil_parts : {X : Type 0} (xs ys : List X) → xs ++ ys ≡ [] → (xs ≡ []) × (ys ≡ [])
nil_parts xs ys e = let n : length xs + length ys ≡ 0 = sym (length-append xs ys) ∙ ap length e in
    (nil_from_length xs (omega (arith, n)), nil_from_length ys (omega (arith, n)))

-- the intents around one card
pub record Around (cs : List (Option Card)) (k : ℕ) (o : Option Card) : Type 0 where
  pub front : List Card
  pub back : List Card
  pub now : intents cs ≡ front ++ (open_in o ++ back)
  pub changed : (x : Option Card) → intents (set cs k x) ≡ front ++ (open_in x ++ back)

pub around : (cs : List (Option Card)) (k : ℕ) (o : Option Card) → slice_get cs k ≡ Some o → Around cs k o
around [] k o e = absurd (none-some o e)
around (c ∷ cs) zero o e = record {
  front = [];
  back = intents cs;
  now =
      ap (λ x. open_in x ++ intents cs) (same_Some c o e);
  changed = λ x. refl;
}
around (c ∷ cs) (suc k) o e = let r = around cs k o e in record {
  front = open_in c ++ r.front;
  back = r.back;
  now = ap (λ xs. open_in c ++ xs) r.now ∙ sym (append_assoc (open_in c) r.front (open_in o ++ r.back));
  changed = λ x. ap (λ xs. open_in c ++ xs) (r.changed x)
      ∙ sym (append_assoc (open_in c) r.front (open_in x ++ r.back));
}

-- where no intent is open, a written card is the only one that may be
pub intents-with_closed : (cs : List (Option Card)) (t : ℕ) (o x : Option Card) → record_at cs t ≡ Some o
    → intents cs ≡ [] → intents (with_record cs t x) ≡ open_in x
intents-with_closed cs zero o x e h = absurd (none-some o e)
intents-with_closed cs (suc k) o x e h =
    let r = around cs k o e in
    let p = nil_parts r.front (open_in o ++ r.back) (sym r.now ∙ h) in
    let q = nil_parts (open_in o) r.back p.1 in
    r.changed x ∙ (λ i. p.0 i ++ (open_in x ++ q.1 i)) ∙ append-nil (open_in x)

-- the same where the one open intent is overwritten
pub intents-with_open : (cs : List (Option Card)) (t : ℕ) (o x : Option Card) → record_at cs t ≡ Some o
    → length (intents cs) ≤ 1 → 1 ≤ length (open_in o) → intents (with_record cs t x) ≡ open_in x
intents-with_open cs zero o x e few here = absurd (none-some o e)
intents-with_open cs (suc k) o x e few here =
    let r = around cs k o e in
    let n : length r.front + (length (open_in o) + length r.back) ≡ length (intents cs)
    = ap (λ m. length r.front + m) (sym (length-append (open_in o) r.back))
    ∙ sym (length-append r.front (open_in o ++ r.back)) ∙ ap length (sym r.now) in
    let p : r.front ≡ [] = nil_from_length r.front (omega (arith, n, few, here)) in
    let q : r.back ≡ [] = nil_from_length r.back (omega (arith, n, few, here)) in
    r.changed x ∙ (λ i. p i ++ (open_in x ++ q i)) ∙ append-nil (open_in x)

-- and the open intent is the only one
pub intents-open : (cs : List (Option Card)) (t : ℕ) (o : Option Card) → record_at cs t ≡ Some o
    → length (intents cs) ≤ 1 → 1 ≤ length (open_in o) → intents cs ≡ open_in o
intents-open cs zero o e few here = absurd (none-some o e)
intents-open cs (suc k) o e few here =
    let r = around cs k o e in
    let n : length r.front + (length (open_in o) + length r.back) ≡ length (intents cs)
    = ap (λ m. length r.front + m) (sym (length-append (open_in o) r.back))
    ∙ sym (length-append r.front (open_in o ++ r.back)) ∙ ap length (sym r.now) in
    let p : r.front ≡ [] = nil_from_length r.front (omega (arith, n, few, here)) in
    let q : r.back ≡ [] = nil_from_length r.back (omega (arith, n, few, here)) in
    r.now ∙ (λ i. p i ++ (open_in o ++ q i)) ∙ append-nil (open_in o)

-- a map with a new value
pub put-same : {X : Type 0} (f : ℕ → X) (a : ℕ) (x : X) → f a ≡ x → (k : ℕ) → put f a x k ≡ f k
put-same f a x e k = elim (cases_eq k a) [
  | inl h ↦ rw (eq-eqb k a h) (sym e ∙ ap f (sym h))
  | inr h ↦ rw (ne_eqb k a h) refl
]

put-agree : (f g : Cards) (a : ℕ) (x : Option ℕ) (k : ℕ) → (k ≢ a → f k ≡ g k) → put f a x k ≡ put g a x k
put-agree f g a x k h = elim (cases_eq k a) [
  | inl e ↦ rw (eq-eqb k a e) refl
  | inr n ↦ rw (ne_eqb k a n) (h n)
]

-- what lies under new quantities of these items doesn't show at them
pub overlaid-agree : (rs : List (ℕ × ℕ)) (f g : Cards) → ((k : ℕ) → ¬ (Contains (items rs) k) → f k ≡ g k) → (i : ℕ)
    → overlaid rs f i ≡ overlaid rs g i
overlaid-agree [] f g h i = h i (Contains-nil i)
overlaid-agree (r ∷ rs) f g h i = overlaid-agree rs (put f r.0 (Some r.1)) (put g r.0 (Some r.1))
    (λ k n. put-agree f g r.0 (Some r.1) k
    (λ d. h k (λ c. elim (Contains-cases k r.0 (items rs) c) [ inl e ↦ d (sym e) | inr m ↦ n m ]))) i

-- new quantities that are there already change nothing
pub overlaid-same : (rs : List (ℕ × ℕ)) (f : Cards) → AllByRecursion (λ r. f r.0 ≡ Some r.1) rs → (i : ℕ)
    → overlaid rs f i ≡ f i
overlaid-same [] f all i = refl
overlaid-same (r ∷ rs) f all i =
    ap (λ (g : Cards). overlaid rs g i) (λ j k. put-same f r.0 (Some r.1) all.0 k j) ∙ overlaid-same rs f all.1 i

-- a changed list has the records that it had
get-set_some : {X : Type 0} (xs : List X) (n k : ℕ) (y : X)
    → is_some (slice_get (set xs n y) k) ≡ is_some (slice_get xs k)
get-set_some [] n k y = refl
get-set_some (x ∷ xs) zero zero y = refl
get-set_some (x ∷ xs) zero (suc k) y = refl
get-set_some (x ∷ xs) (suc n) zero y = refl
get-set_some (x ∷ xs) (suc n) (suc k) y = get-set_some xs n k y

pub record_at-with_some : {X : Type 0} (xs : List X) (r k : ℕ) (y : X)
    → is_some (record_at (with_record xs r y) k) ≡ is_some (record_at xs k)
record_at-with_some xs zero k y = refl
record_at-with_some xs (suc n) zero y = refl
record_at-with_some xs (suc n) (suc k) y = get-set_some xs n k y

-- a card has one open intent at most
cond-few : (b : Bool) (c : Card) → length (cond b (c ∷ []) []) ≤ 1
cond-few true c = omega arith
cond-few false c = omega arith

pub open_in-few : (o : Option Card) → length (open_in o) ≤ 1
open_in-few None = omega arith
open_in-few (Some c) = cond-few c.pending c

pub open_in-pending : (c : Card) → c.pending ≡ true → open_in (Some c) ≡ c ∷ []
open_in-pending c e = ap (λ b. cond b (c ∷ []) []) e

pub open_in-answered : (c : Card) → c.pending ≡ false → open_in (Some c) ≡ []
open_in-answered c e = ap (λ b. cond b (c ∷ []) []) e

-- where each of these items has its quantity, each of them has one
pub items-some : (rs : List (ℕ × ℕ)) (f : Cards) → AllByRecursion (λ r. f r.0 ≡ Some r.1) rs → (k : ℕ)
    → Contains (items rs) k → IsSome (f k)
items-some [] f all k c = absurd (Contains-nil k c)
items-some (r ∷ rs) f all k c = elim (Contains-cases k r.0 (items rs) c) [
  | inl e ↦ ap is_some (ap f (sym e) ∙ all.0)
  | inr m ↦ items-some rs f all.1 k m
]
