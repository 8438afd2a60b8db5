-- What a session that isn't dead has told of a request, once the drive has kept it or failed.
use Rattle.std.proofs.Common.{ℕ, ◌≡◌, ◌≢◌, ◌≤◌, ◌<◌, ◌⊎◌, ◌+◌, inl, inr, true, false, Bool, Ok, Err, Result, Some, refl}
use Rattle.std.proofs.Common.{sym, ◌∙◌, ap, subst, arith}
use Rattle.std.specs.Prelude.{IsSome, OnOk, None, Option, is_none, nat_le, nat_lt, ◌==◌, if◌then◌else◌}
use Rattle.std.proofs.lemmas.Bool.{and_from, and_parts, cases_Bool, eq-eqb, eqb-false, eqb-true, false≢true, le-leb}
use Rattle.std.proofs.lemmas.Bool.{le-ltb, leb-true, ltb-false, ne_eqb}
use Rattle.d64_image.specs.History.{History, IfCounted, TellsFailure}
use Rattle.host_session.specs.Held.{Changes, IsOnward}
use Rattle.d64_image.specs.Images.{Image}
use Rattle.host_session.proofs.lemmas.Held.{changes_weaker}
use Rattle.request_cards.specs.declared.answer.Answer.{Answer}
use Rattle.request_cards.specs.declared.kind.Kind.{Kind}
use Rattle.request_cards.specs.declared.kind.Kind.TheVariants.{Set}
use Rattle.request_cards.specs.declared.reply.Word.{Word}
use Rattle.request_cards.specs.declared.reply.Word.TheVariants as words
use Rattle.request_cards.specs.CardTexts.{Card}
use Rattle.request_cards.specs.declared.standing.Standing.TheVariants.{New, Settled}
use Rattle.request_cards.specs.Ledgers.{Entry, Start, State, applied, is_new, next_in, number_of, standing, standing_at}
use Rattle.request_cards.specs.Ledgers.{told_again, told_late, word_in, word_on}
use Rattle.request_cards.specs.Requests.{Ask, same_kind}
use Rattle.host_session.specs.session.Answering.{IsAnswered, after_ask}
use Rattle.host_session.specs.shop.Files.{Files, HasFiles}
use Rattle.host_session.specs.session.Handling.{MayGrow, kept_writes, most_writes}
use Rattle.host_session.specs.session.Keeping.{IsEither, IsKeeping, answer_of, shop_after}
use Rattle.host_session.specs.shop.Shop.{IsSettled, IsShop, Shop, results_in, results_of, shop_of, start_of, with_state}
use Rattle.host_session.specs.session.Standing.{View}
use Rattle.host_session.proofs.lemmas.session.Keepings.{first-kind, kept-within}
use Rattle.host_session.proofs.lemmas.session.KeptItems.{none-or}
use Rattle.host_session.proofs.lemmas.shop.Shops.{HasFiles-one, IsShop-one}

-- a kept answer is another word than MEDIA
pub kept-other : (x : Answer) → words.Kept x ≢ words.Media
kept-other x e = subst (λ (w : Word). IsKept w) e tt
  where
    IsKept : Word → Type 0
    IsKept (words.Kept y) = Unit {0}
    IsKept _ = ⊥

-- the next request of a till is new, and no other is
pub next-new : (start : Start) (st : State) (a : Ask) → next_in start st a ≡ true
    → standing start.tills (st.ledger.kept a.till) (st.prior a.till) a ≡ New
next-new start st a next =
    let p = and_parts (nat_le a.till start.tills) (a.number == number_of (st.ledger.kept a.till) + 1) next in
    let till = le-ltb start.tills a.till (leb-true a.till start.tills p.0) in
    ap (λ (b : Bool). if b then Settled words.NoTill else standing_at (st.ledger.kept a.till) (st.prior a.till) a) till
    ∙ by (st.ledger.kept a.till) (eqb-true a.number (number_of (st.ledger.kept a.till) + 1) p.1)
  where
    by : (o : Option Entry) → a.number ≡ number_of o + 1 → standing_at o (st.prior a.till) a ≡ New
    by None e = ap (λ (b : Bool). if b then Settled words.Ahead else New) (le-ltb 1 a.number (omega (arith, e)))
    by (Some k) e =
        let below : nat_lt a.number k.number ≡ false = le-ltb a.number k.number (omega (arith, e)) in
        let same : (a.number == k.number) ≡ false = ne_eqb a.number k.number (λ d. omega (arith, d, e)) in
        let above : nat_lt (k.number + 1) a.number ≡ false = le-ltb (k.number + 1) a.number (omega (arith, e)) in
        rw (below, same, above) refl

pub new-next : (start : Start) (st : State) (a : Ask) → 1 ≤ a.number
    → standing start.tills (st.ledger.kept a.till) (st.prior a.till) a ≡ New → next_in start st a ≡ true
new-next start st a low new = outer (nat_lt start.tills a.till) refl new
  where
    not-new : (w : Word) → Settled w ≢ New
    not-new w e = false≢true (ap is_new e)

    within : (o : Option Entry) → standing_at o (st.prior a.till) a ≡ New → a.number ≡ number_of o + 1
    within None e = elim (cases_Bool (nat_lt 1 a.number)) [
      | inl b ↦ absurd (not-new words.Ahead (sym (ap (λ (x : Bool). if x then Settled words.Ahead else New) b) ∙ e))
      | inr b ↦ omega (arith, low, ltb-false 1 a.number b)
    ]
    within (Some k) e = first (cases_Bool (nat_lt a.number k.number))
      where
        third : nat_lt a.number k.number ≡ false → (a.number == k.number) ≡ false
            → (nat_lt (k.number + 1) a.number ≡ true) ⊎ (nat_lt (k.number + 1) a.number ≡ false)
            → a.number ≡ k.number + 1
        third b d (inl m) = absurd (not-new words.Ahead (sym (rw (b, d, m) refl) ∙ e))
        third b d (inr m) = omega (
          arith,
          ltb-false a.number k.number b,
          eqb-false a.number k.number d,
          ltb-false
              (k.number + 1) a.number m,
        )

        second : nat_lt a.number k.number ≡ false → ((a.number == k.number) ≡ true) ⊎ ((a.number == k.number) ≡ false)
            → a.number ≡ k.number + 1
        second b (inl d) = absurd (not-new (told_again k a) (sym (rw (b, d) refl) ∙ e))
        second b (inr d) = third b d (cases_Bool (nat_lt (k.number + 1) a.number))

        first : (nat_lt a.number k.number ≡ true) ⊎ (nat_lt a.number k.number ≡ false) → a.number ≡ k.number + 1
        first (inl b) = absurd (not-new (told_late (st.prior a.till) a) (sym (rw b refl) ∙ e))
        first (inr b) = second b (cases_Bool (a.number == k.number))

    outer : (b : Bool) → nat_lt start.tills a.till ≡ b
        → (if b then Settled words.NoTill else standing_at (st.ledger.kept a.till) (st.prior a.till) a) ≡ New
        → next_in start st a ≡ true
    outer true e n = absurd (not-new words.NoTill n)
    outer false e n = and_from (nat_le a.till start.tills) (a.number == number_of (st.ledger.kept a.till) + 1)
        (le-leb a.till start.tills (ltb-false start.tills a.till e))
        (eq-eqb a.number (number_of (st.ledger.kept a.till) + 1) (within (st.ledger.kept a.till) n))

-- the next request of a till leaves the shop after it
pub after-next : (s : Shop) (a : Ask) → next_in (start_of s) s.state a ≡ true → shop_after s a ≡ after_ask s a
after-next s a next = sym (ap (λ (b : Bool). with_state s (if b then applied s.top s.state a else s.state)) next)

-- an image is of one shop, so what holds of one of its shops holds of each
pub of-shop : (img : Image) (s : Shop) (P : Shop → Type 0) → IsShop img s → P s → (t : Shop) → IsShop img t → P t
of-shop img s P x p t y = subst P (IsShop-one img s t x y) p

-- What the drive's keeping of the request comes to.
pub record IsKept {D E : Type 0} (S : History D) (old new : D) (f : Files) (a : Ask) (before : Option ℕ) (c : Card)
    (res : Result (Unit {0}) E) : Type 0 where
  pub ok : OnOk res (IsSettled (S.image new) (shop_after (shop_of f) a))
  pub moments : (h : HasFiles (S.image old) f)
      → Changes S old new (kept_writes h.stock_file a.body.item (results_of c.newest)) (IsEither (shop_of f) a)
  pub counted : IsSome before → IfCounted S old new (λ i. IsShop i (shop_after (shop_of f) a))
  pub refused : c.pending ≡ false → IfCounted S old new (λ i. IsShop i (shop_after (shop_of f) a))
  pub onward : IsOnward S old new (λ i. IsShop i (shop_of f)) (λ i. IsShop i (shop_after (shop_of f) a))
  pub failures : TellsFailure S old new res

module _ {D : Type 0} (S : History D) (x y : View D) (f : Files) (h : HasFiles (S.image x.disk) f) (a : Ask)
    (before : Option ℕ) (c : Card) (k : IsKeeping f a c) (is : before ≡ (shop_of f).state.ledger.cards a.body.item)
    (next : next_in (start_of (shop_of f)) (shop_of f).state a ≡ true) where
  here : IsShop (S.image x.disk) (shop_of f)
  here = record { files = f; has = h; records = k.records; is = refl }

  ends : shop_after (shop_of f) a ≡ after_ask (shop_of f) a
  ends = after-next (shop_of f) a next

  told-moments : {E : Type 0} {res : Result (Unit {0}) E} → IsKept S x.disk y.disk f a before c res
      → (t : Shop) → IsShop (S.image x.disk) t
      → Changes S x.disk y.disk 3618 (λ i. IsShop i t ⊎ IsShop i (after_ask t a))
  told-moments w = of-shop (S.image x.disk) (shop_of f) (λ (t : Shop). Changes S x.disk y.disk 3618 (λ i. IsShop i t
      ⊎ IsShop i (after_ask t a))) here
      (changes_weaker S x.disk y.disk _ 3618 (IsEither (shop_of f) a) (λ i. IsShop i (shop_of f)
      ⊎ IsShop i (after_ask (shop_of f) a)) (kept-within f a c k (S.image x.disk) h)
      (λ i e. subst (λ (u : Shop). IsShop i (shop_of f) ⊎ IsShop i u) ends e) (w.moments h))

  told-onward : {E : Type 0} {res : Result (Unit {0}) E} → IsKept S x.disk y.disk f a before c res
      → (t : Shop) → IsShop (S.image x.disk) t
      → IsOnward S x.disk y.disk (λ i. IsShop i t) (λ i. IsShop i (after_ask t a))
  told-onward w = of-shop (S.image x.disk) (shop_of f) (λ (t : Shop). IsOnward S x.disk y.disk (λ i. IsShop i t)
      (λ i. IsShop i (after_ask t a))) here
      (subst (λ (u : Shop). IsOnward S x.disk y.disk (λ i. IsShop i (shop_of f)) (λ i. IsShop i u)) ends w.onward)

  -- what the drive's keeping of the request may hold on the way
  abbrev pub KeptMoments : Type 0
  KeptMoments = (g : Files) → (p : HasFiles (S.image x.disk) g × IsKeeping g a c)
      → Changes S x.disk y.disk (kept_writes p.0.stock_file a.body.item (results_of c.newest)) (IsEither (shop_of g) a)

  told-writes : KeptMoments → (g : Files) → (h' : HasFiles (S.image x.disk) g)
      → S.writes y.disk ≤ S.writes x.disk + most_writes (shop_of g) h'.stock_file (Some a)
  told-writes all g h' =
      let same : f ≡ g = HasFiles-one (S.image x.disk) f g h h' in
      let k' : IsKeeping g a c = subst (λ (z : Files). IsKeeping z a c) same k in
      let next' : next_in (start_of (shop_of g)) (shop_of g).state a ≡ true =
      subst (λ (z : Files). next_in (start_of (shop_of z)) (shop_of z).state a ≡ true) same next in
      let most : most_writes (shop_of g) h'.stock_file (Some a) ≡ kept_writes h'.stock_file a.body.item
      (results_of c.newest)
      = ap (λ (b : Bool). if b then kept_writes h'.stock_file a.body.item (results_in a.body (answer_of (shop_of g) a))
      else 0) next'
      ∙ sym (ap (λ (e : _). kept_writes h'.stock_file a.body.item (results_of e)) k'.newest) in
      omega (arith, (all g (h', k')).writes, most)

  grows : c.pending ≡ true → is_none before ≡ true → MayGrow (shop_of f) (Some a)
  grows intent new =
      let none : is_none ((shop_of f).state.ledger.cards a.body.item) ≡ true = sym (ap is_none is) ∙ new in
      let kind = first-kind f a c k intent none in
      and_from (same_kind a.body.kind Set) _ (ap (λ (z : Kind). same_kind z Set) kind.0)
      (and_from (nat_le a.body.item f.top) _ (le-leb a.body.item f.top kind.1) none)

  told-counted : {E : Type 0} {res : Result (Unit {0}) E} → IsKept S x.disk y.disk f a before c res → (t : Shop)
      → IsShop (S.image x.disk) t → S.writes x.disk < S.writes y.disk
      → MayGrow t (Some a) ⊎ IsShop (S.image y.disk) (after_ask t a)
  told-counted w = of-shop (S.image x.disk) (shop_of f) (λ (t : Shop). S.writes x.disk < S.writes y.disk
      → MayGrow t (Some a) ⊎ IsShop (S.image y.disk) (after_ask t a)) here
      (λ lt. subst (λ (u : Shop). MayGrow (shop_of f) (Some a) ⊎ IsShop (S.image y.disk) u) ends
      (by lt (cases_Bool c.pending) (cases_Bool (is_none before))))
    where
      by : S.writes x.disk < S.writes y.disk → (c.pending ≡ true) ⊎ (c.pending ≡ false)
          → (is_none before ≡ true) ⊎ (is_none before ≡ false) → MayGrow (shop_of f) (Some a)
          ⊎ IsShop (S.image y.disk) (shop_after (shop_of f) a)
      by lt (inr closed) n = inr (w.refused closed lt)
      by lt (inl intent) (inr old) = inr (w.counted (none-or before old) lt)
      by lt (inl intent) (inl new) = inl (grows intent new)

  -- the two ends of it
  pub told-ok : {E : Type 0} (u : Unit {0}) (w : IsKept {E = E} S x.disk y.disk f a before c (Ok u))
      → KeptMoments → y.dead ≡ false → (answer : Answer) → answer ≡ answer_of (shop_of f) a
      → IsAnswered S x y a (words.Kept answer)
  told-ok u w all alive answer is_answer = record {
    reply = λ t it other. of-shop (S.image x.disk) (shop_of f)
        (λ (u : Shop). (words.Kept answer ≡ word_in (start_of u) u.state a) × IsSettled (S.image y.disk) (after_ask u a)
        × (y.dead ≡ false)) here (
          ap words.Kept is_answer
              ∙ sym (ap (λ st. word_on st (answer_of (shop_of f) a)) (next-new (start_of (shop_of f)) (shop_of f).state
              a next)),
          subst (λ (u : Shop). IsSettled (S.image y.disk) u) ends w.ok,
          alive,
        ) t it;
    moments = told-moments w;
    onward = told-onward w;
    writes = told-writes all;
    counted = told-counted w;
    failures = inr (kept-other answer, w.failures);
  }

  pub told-dead : {E : Type 0} (fault : E) (w : IsKept S x.disk y.disk f a before c (Err fault))
      → KeptMoments → y.dead ≡ true → IsAnswered S x y a words.Media
  told-dead fault w all dead = record {
    reply = λ t it other. absurd (other refl);
    moments = told-moments w;
    onward = told-onward w;
    writes = told-writes all;
    counted = told-counted w;
    failures = inl (refl, dead, w.failures);
  }
