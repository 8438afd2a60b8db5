-- A run of messages that ask nothing new leaves its disk alone.
use Rattle.std.proofs.Common.{◌≡◌, List, [], ◌∷◌, ◌++◌, Option, Some, None, ℕ, Bool, false, ⊎_elim}
use Rattle.std.proofs.Common.{arith, refl, sym, subst, ap, ◌∙◌}
use Rattle.std.specs.List.{AllByRecursion}
use Rattle.std.specs.Prelude.{if◌then◌else◌}
use Rattle.host_session.proofs.lemmas.Held.{no_change, start, then, weaker}
use Rattle.d64_image.specs.History.{History}
use Rattle.host_session.specs.Held.{Changes, HeldOnly}
use Rattle.request_cards.specs.Ledgers.{after_message, applied}
use Rattle.request_cards.specs.Reading.{request_of}
use Rattle.request_cards.specs.Requests.{Ask}
use Rattle.request_cards.specs.declared.reply.Reply.{Reply}
use Rattle.host_session.proofs.lemmas.events.Parts.{after_whole, counted_either}
use Rattle.host_session.proofs.lemmas.events.Quiet.{held_on}
use Rattle.host_session.specs.events.Counted.{MayCount, after_all}
use Rattle.host_session.specs.events.Events.{Message}
use Rattle.host_session.specs.events.Quiet.{AreUncut, AskNothing, AsksNothing, IsLeftAlone, IsQuiet, LeavesAlone}
use Rattle.host_session.specs.runs.Chains.{HasRun, HasRunToFailure, IsChain}
use Rattle.host_session.specs.session.Handling.{is_next_request}
use Rattle.host_session.specs.session.Opening.{Untouched}
use Rattle.host_session.specs.shop.Shop.{IsSettled, IsShop, Shop, start_of, with_state}

-- what holds of each of two lists
pub both_parts : {X : Type 0} (P : X → Type 0) (xs ys : List X) → AllByRecursion P (xs ++ ys)
    → AllByRecursion P xs × AllByRecursion P ys
both_parts P [] ys all = (tt, all)
both_parts P (x ∷ xs) ys all = let rest = both_parts P xs ys all.1 in ((all.0, rest.0), rest.1)

-- a message that asks nothing new changes no shop
state_stays : (s : Shop) (o : Option Ask) → is_next_request s o ≡ false → after_message (start_of s) s.state o ≡ s.state
state_stays s None asks = refl
state_stays s (Some a) asks = ap (λ (b : Bool). if b then applied s.top s.state a else s.state) asks

pub shop_stays : (s : Shop) (m : Message) (failed : Bool) (counted : List Ask) → AsksNothing s m
    → MayCount s.top s.state (request_of m.bytes) m.cut_after failed counted
    → with_state s (after_all (start_of s) s.state counted) ≡ s
shop_stays s m failed counted asks may = ap (λ state. with_state s state) (⊎_elim
    (λ none. ap (λ c. after_all (start_of s) s.state c) none)
    (λ whole. ap (λ c. after_all (start_of s) s.state c) whole.1
    ∙ after_whole (start_of s) s.state (request_of m.bytes)
    ∙ state_stays s (request_of m.bytes) asks)
    (counted_either s.top s.state (request_of m.bytes) m.cut_after failed counted may))

module _ {D : Type 0} (h : History D) where
  -- from old to new the shop stayed this one, no other image was held, and where power goes in no message the device is
  -- the same
  abbrev StaysSo : Shop → List Message → D → Shop → D → Type 0
  StaysSo s ms old t new = (t ≡ s) × HeldOnly h old new (λ i. i ≡ h.image old) × (AreUncut ms → new ≡ old)

  held_alone : (o : Option ℕ) (a b : D) → IsLeftAlone h o a b → HeldOnly h a b (λ i. i ≡ h.image a)
  held_alone None a b same =
      subst (λ (d : D). HeldOnly h a d (λ i. i ≡ h.image a)) (sym same) (start h a (λ i. i ≡ h.image a) refl)
  held_alone (Some n) a b held = held

  uncut_alone : (o : Option ℕ) (a b : D) → IsLeftAlone h o a b → o ≡ None → b ≡ a
  uncut_alone o a b alone none = subst (λ (x : Option ℕ). IsLeftAlone h x a b) none alone

  chain_stays : (s : Shop) (ms : List Message) (xs : List (Reply × D)) (old : D) (t : Shop) (new : D) → AskNothing s ms
      → IsChain h s ms xs old t new → StaysSo s ms old t new
  chain_stays s [] [] old t new asks c = (c.0, held_alone None old new c.1, λ _. c.1)
  chain_stays s (m ∷ ms) (x ∷ xs) old t new asks c =
      let u = with_state s (after_all (start_of s) s.state c.0.counted) in
      let same : u ≡ s = shop_stays s m c.0.failed c.0.counted asks.0 c.0.is in
      let alone = c.0.quiet asks.0 in
      let rest = chain_stays u ms xs x.1 t new (subst (λ v. AskNothing v ms) (sym same) asks.1) c.1 in (
        rest.0 ∙ same,
        held_on h old x.1 new (held_alone m.cut_after old x.1 alone) (λ _. rest.1),
        λ uncut. rest.2 uncut.1 ∙ uncut_alone m.cut_after old x.1 alone uncut.0,
      )
  chain_stays s [] (x ∷ xs) old t new asks c = absurd c
  chain_stays s (m ∷ ms) [] old t new asks c = absurd c

  -- an opening, and what came behind it
  behind : (s : Shop) (ms : List Message) (old first new : D) → Changes h old first 952 (λ i. IsShop i s)
      → (IsSettled (h.image old) s → Untouched h old first) → IsSettled (h.image first) s
      → HeldOnly h first new (λ i. i ≡ h.image first) → (AreUncut ms → new ≡ first) → IsQuiet h s ms old new
  behind s ms old first new opening quiet rests held same = record {
    shop = (then) h old first new (λ i. IsShop i s) opening.held
        (weaker h first new (λ i. i ≡ h.image first) (λ i. IsShop i s)
        (λ i e. subst (λ x. IsShop x s) (sym e) rests.shop) held);
    rests = λ settled. held_on h old first new (quiet settled).held (λ _. held);
    opening = λ uncut. subst (λ d. Changes h old d 952 (λ i. IsShop i s)) (sym (same uncut)) opening;
    unwritten = λ uncut settled. subst (λ d. Untouched h old d) (sym (same uncut)) (quiet settled);
  }

  pub quiet_run : (s : Shop) (ms : List Message) (xs : List (Reply × D)) (old new : D) → AskNothing s ms
      → HasRun h s ms xs old new → IsQuiet h s ms old new
  quiet_run s ms xs old new asks r =
      let stays = chain_stays s ms xs r.first r.now new asks r.chain in
      behind s ms old r.first new r.opening r.quiet r.rests stays.1 stays.2

  -- and one that the device ended
  pub quiet_to_failure : (s : Shop) (ms : List Message) (xs : List (Reply × D)) (last : Reply) (old new : D)
      → AskNothing s ms → HasRunToFailure h s ms xs last old new → IsQuiet h s ms old new
  quiet_to_failure s ms xs last old new asks f =
      subst (λ all. IsQuiet h s all old new) f.parts (by (both_parts (AsksNothing s) f.before (f.message ∷ [])
      (subst (λ all. AskNothing s all) (sym f.parts) asks)))
    where
      by : AskNothing s f.before × AskNothing s (f.message ∷ []) → IsQuiet h s (f.before ++ f.message ∷ []) old new
      by each =
          let r = f.run in
          let stays = chain_stays s f.before xs r.first r.now f.at each.0 r.chain in
          let alone = subst (λ t. LeavesAlone h t f.message f.at new) stays.0 f.failed.quiet each.1.0 in
          behind s (f.before ++ f.message ∷ []) old r.first new r.opening r.quiet r.rests
          (held_on h r.first f.at new stays.1 (λ _. held_alone f.message.cut_after f.at new alone))
          (λ uncut.
          let whole = both_parts (λ m. m.cut_after ≡ None) f.before (f.message ∷ []) uncut in
          uncut_alone f.message.cut_after f.at new alone whole.1.0 ∙ stays.2 whole.0)

  -- an opening that was refused
  pub quiet_refused : (s : Shop) (old new : D) → Changes h old new 952 (λ i. IsShop i s)
      → (IsSettled (h.image old) s → Untouched h old new) → IsQuiet h s [] old new
  quiet_refused s old new opening quiet = record {
    shop = opening.held;
    rests = λ settled. (quiet settled).held;
    opening = λ _. opening;
    unwritten = λ _ settled. quiet settled;
  }

  -- nothing was done
  pub quiet_same : (s : Shop) (ms : List Message) (d : D) → IsShop (h.image d) s → IsQuiet h s ms d d
  quiet_same s ms d is = record {
    shop = start h d (λ i. IsShop i s) is;
    rests = λ _. start h d (λ i. i ≡ h.image d) refl;
    opening = λ _. record { held = start h d (λ i. IsShop i s) is; writes = omega arith };
    unwritten = λ _ _. no_change h d (λ i. i ≡ h.image d) refl;
  }

  -- these messages are the beginning of some that ask nothing new
  pub quiet_of_more : (s : Shop) (ms rest all : List Message) (old new : D) → ms ++ rest ≡ all
      → (AskNothing s ms → IsQuiet h s ms old new) → AskNothing s all → IsQuiet h s all old new
  quiet_of_more s ms rest all old new parts quiet asks =
      let each = both_parts (AsksNothing s) ms rest (subst (λ xs. AskNothing s xs) (sym parts) asks) in
      let q = quiet each.0 in
      let first : AreUncut all → AreUncut ms = λ uncut.
      (both_parts (λ m. m.cut_after ≡ None) ms rest (subst (λ xs. AreUncut xs) (sym parts) uncut)).0 in
      record {
        shop = q.shop;
        rests = q.rests;
        opening = λ uncut. q.opening (first uncut);
        unwritten = λ uncut. q.unwritten (first uncut);
      }
