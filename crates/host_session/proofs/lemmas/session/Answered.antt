-- A session answers its till's next request: what its tables know of it, and what it stands on once the drive has kept
-- it.
use Rattle.std.proofs.Common.{ℕ, ◌≡◌, ◌+◌, true, false, Bool, Option, Ok, Err, Result, refl, sym, ◌∙◌}
use Rattle.std.proofs.Common.{ap, subst}
use Rattle.std.specs.Prelude.{IsSome, OnOk, nat_le, ◌==◌}
use Rattle.std.proofs.lemmas.Bool.{and_parts, eqb-true}
use Rattle.d64_image.specs.History.{History}
use Rattle.host_session.proofs.lemmas.Held.{at_end}
use Rattle.request_cards.specs.declared.decision.Outcome.{Outcome}
use Rattle.request_cards.specs.declared.reply.Word.TheVariants as words
use Rattle.request_cards.specs.CardTexts.{Card, IsEntry}
use Rattle.request_cards.specs.Ledgers.{State, entry_of, next_in, number_of}
use Rattle.request_cards.specs.Requests.{Ask, IsAsk}
use Rattle.drive_channels.specs.State.{Seen}
use Rattle.drive_channels.specs.declared.faults.Dead.{Dead}
use Rattle.host_session.specs.session.Answering.{IsAnswered}
use Rattle.host_session.specs.shop.Files.{Files, HasFiles}
use Rattle.host_session.specs.session.Handling.{kept_writes}
use Rattle.host_session.specs.session.Keeping.{IsAfterCounted, IsEither, IsKeeping, KeepsAnswer, KeepsOnward, answer_of, shop_after}
use Rattle.host_session.specs.shop.Selecting.{IsReady}
use Rattle.host_session.specs.shop.Shop.{IsSettled, IsShop, Shop, results_of, shop_of, start_of}
use Rattle.host_session.specs.session.Standing.{IsStanding, View}
use Rattle.request_cards.specs.Tables.{card_with, held_by, limits_of, nth, renewed, traded}
use Rattle.request_cards.specs.declared.ledger.Ledger.{Ledger}
use Rattle.host_session.proofs.lemmas.session.Replies.{IsKept, told-dead, told-ok}
use Rattle.host_session.proofs.lemmas.session.Standings.{standing-after, standing-answer, standing-dead, standing-entry}
use Rattle.host_session.proofs.lemmas.session.Standings.{standing-keeping}

module _ {D : Type 0} (S : History D) (x : Seen D) (now : View D) (dead : Bool) (l : Ledger)
    (is : record { disk = x.disk; dead = dead } ≡ now) (v : IsStanding (S.image x.disk) dead l)
    (a : Ask) (ask : IsAsk a) (alive : now.dead ≡ false)
    (next : (s : Shop) → IsShop (S.image now.disk) s → next_in (start_of s) s.state a ≡ true) where
  live : dead ≡ false
  live = ap (λ (u : View D). u.dead) is ∙ alive

  due : next_in (start_of v.shop) v.shop.state a ≡ true
  due = next v.shop (subst (λ (u : View D). IsShop (S.image u.disk) v.shop) is v.is_shop)

  pub known-entry : (o : Outcome) → o ≡ traded (nth l.cards) l.top a.body → IsEntry (entry_of (a, o.answer))
  known-entry o rule = standing-entry (S.image x.disk) dead l v live a ask due o rule

  pub known-number : a.number ≡ number_of ((held_by l).ledger.kept a.till) + 1
  known-number =
      let two = and_parts (nat_le a.till v.shop.tills) (a.number == number_of (v.shop.state.ledger.kept a.till) + 1)
      due in
      eqb-true a.number (number_of (v.shop.state.ledger.kept a.till) + 1) two.1
      ∙ sym (ap (λ (st : State). number_of (st.ledger.kept a.till) + 1) (v.state_is live))

  module _ (o : Outcome) (rule : o ≡ traded (nth l.cards) l.top a.body) (c : Card)
      (made : c ≡ card_with (nth l.requests a.till) a o.answer) (before : Option ℕ)
      (asked : before ≡ nth l.cards a.body.item) where
    -- what the item had before is what the shop has of it
    had : (f : Files) → shop_of f ≡ v.shop → before ≡ (shop_of f).state.ledger.cards a.body.item
    had f same = asked ∙ ap (λ (st : State). st.ledger.cards a.body.item) (v.state_is live)
        ∙ sym (ap (λ (s : Shop). s.state.ledger.cards a.body.item) same)

    pub known-keeping : (f : Files) × HasFiles (S.image x.disk) f × IsKeeping f a c
        × (before ≡ (shop_of f).state.ledger.cards a.body.item)
    known-keeping =
        let (f, h, same, k) = standing-keeping (S.image x.disk) dead l v live a ask due o rule c
        made in (f, h, k, had f same)

    -- the drive has kept it, or failed
    module _ (y : Seen D) (res : Result (Unit {0}) Dead) (puts : KeepsAnswer S x y res a c
        (λ f p. kept_writes p.0.stock_file a.body.item (results_of c.newest)))
        (counted : IsSome before → IsAfterCounted S x y a c) (refused : c.pending ≡ false → IsAfterCounted S x y a c)
        (onward : KeepsOnward S x y a c)
      where
        kept : (f : Files) → HasFiles (S.image x.disk) f → IsKeeping f a c → IsKept S x.disk y.disk f a before c res
        kept f h k = record {
          ok = puts.ok f (h, k);
          moments = λ h'. puts.moments f (h', k);
          counted = λ e. counted e f h k;
          refused = λ e. refused e f h k;
          onward = onward f h k;
          failures = puts.failures;
        }

        next-of : (f : Files) → shop_of f ≡ v.shop → next_in (start_of (shop_of f)) (shop_of f).state a ≡ true
        next-of f same = subst (λ (s : Shop). next_in (start_of s) s.state a ≡ true) (sym same) due

        abbrev Found : Type 0
        Found = (f : Files) × HasFiles (S.image x.disk) f × (shop_of f ≡ v.shop) × IsKeeping f a c

        found : Found
        found = standing-keeping (S.image x.disk) dead l v live a ask due o rule c made

        -- where it failed
        pub stands-dead : IsStanding (S.image y.disk) true l
        stands-dead =
            let (f, h, same, k) = found in
            standing-dead (S.image x.disk) dead l v a (S.image y.disk)
            (subst (λ (s : Shop). IsEither s a (S.image y.disk)) same (at_end S x.disk y.disk (IsEither (shop_of f) a)
            (puts.moments f (h, k)).held))

        pub answers-dead : (fault : Dead) → res ≡ Err fault
            → IsAnswered S now (record { disk = y.disk; dead = true }) a words.Media
        answers-dead fault e =
            let (f, h, same, k) = found in
            let w = subst (λ (r : Result (Unit {0}) Dead). IsKept S x.disk y.disk f a before c r) e (kept f h k) in
            subst (λ (u : View D). IsAnswered S u (record { disk = y.disk; dead = true }) a words.Media) is
            (told-dead S (record { disk = x.disk; dead = dead }) (record { disk = y.disk; dead = true }) f h a before c k
            (had f same) (next-of f same) fault w puts.moments refl)

        -- where it was kept
        settled-of : (u : Unit {0}) → res ≡ Ok u → (f : Files) → HasFiles (S.image x.disk) f → IsKeeping f a c
            → IsSettled (S.image y.disk) (shop_after (shop_of f) a)
        settled-of u e f h k =
            subst (λ (r : Result (Unit {0}) Dead). OnOk r (IsSettled (S.image y.disk) (shop_after (shop_of f) a))) e
            (puts.ok f (h, k))

        pub stands-after : (u : Unit {0}) → res ≡ Ok u → (answered : Card) → answered ≡ record c { pending = false }
            → (m : Ledger) → held_by m ≡ renewed (held_by l) a o answered → limits_of m ≡ limits_of l
            → IsStanding (S.image y.disk) dead m
        stands-after u e answered is_answered m new limits =
            let (f, h, same, k) = found in
            standing-after (S.image x.disk) dead l v live a ask due (S.image y.disk) m o c
            answered rule made is_answered new limits
            (subst (λ (s : Shop). IsSettled (S.image y.disk) (shop_after s a)) same (settled-of u e f h k))

        pub ready-after : (u : Unit {0}) → res ≡ Ok u → IsReady S y
        ready-after u e = subst (λ (r : Result (Unit {0}) Dead). OnOk r (IsReady S y)) e puts.ready

        pub answers-after : (u : Unit {0}) → res ≡ Ok u
            → IsAnswered S now (record { disk = y.disk; dead = dead }) a (words.Kept o.answer)
        answers-after u e =
            let (f, h, same, k) = found in
            let w = subst (λ (r : Result (Unit {0}) Dead). IsKept S x.disk y.disk f a before c r) e (kept f h k) in
            subst (λ (z : View D). IsAnswered S z (record { disk = y.disk; dead = dead }) a (words.Kept o.answer)) is
            (told-ok S (record { disk = x.disk; dead = dead }) (record { disk = y.disk; dead = dead }) f h a before c k
            (had f same) (next-of f same) u w puts.moments live o.answer
            (standing-answer (S.image x.disk) dead l v live a ask due o rule
            ∙ ap (λ (s : Shop). answer_of s a) (sym same)))
