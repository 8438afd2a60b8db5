-- A run of messages that ask nothing new writes no more than its opening, wherever power goes.
use Rattle.std.proofs.Common.{◌≡◌, ◌≤◌, List, [], ◌∷◌, ◌++◌, ap, arith, subst, sym}
use Rattle.d64_image.specs.History.{History}
use Rattle.host_session.specs.Held.{Changes}
use Rattle.request_cards.specs.declared.reply.Reply.{Reply}
use Rattle.host_session.proofs.lemmas.runs.QuietRuns.{both_parts, shop_stays}
use Rattle.host_session.specs.events.Counted.{after_all}
use Rattle.host_session.specs.events.Events.{Message}
use Rattle.host_session.specs.events.Quiet.{AskNothing, AsksNothing}
use Rattle.host_session.specs.events.Within.{AreSparing, IsSpared}
use Rattle.host_session.specs.runs.Chains.{HasRun, HasRunToFailure, IsChain}
use Rattle.host_session.specs.session.Opening.{Untouched}
use Rattle.host_session.specs.shop.Shop.{IsSettled, IsShop, Shop, start_of, with_state}

module _ {D : Type 0} (h : History D) where
  chain_spared : (s : Shop) (ms : List Message) (xs : List (Reply × D)) (old : D) (t : Shop) (new : D)
      → AskNothing s ms → IsSettled (h.image old) s → IsChain h s ms xs old t new → AreSparing h ms xs old
      → h.writes new ≤ h.writes old
  chain_spared s [] [] old t new asks rests c each =
      let same : h.writes new ≡ h.writes old = ap h.writes c.1 in omega (arith, same)
  chain_spared s (m ∷ ms) (x ∷ xs) old t new asks rests c each =
      let u = with_state s (after_all (start_of s) s.state c.0.counted) in
      let same : u ≡ s = shop_stays s m c.0.failed c.0.counted asks.0 c.0.is in
      let one : h.writes x.1 ≤ h.writes old = each.0 s rests asks.0 in
      let rest = chain_spared u ms xs x.1 t new (subst (λ v. AskNothing v ms) (sym same) asks.1) c.0.ends.settled c.1
      each.1 in
      omega (arith, one, rest)
  chain_spared s [] (x ∷ xs) old t new asks rests c each = absurd c
  chain_spared s (m ∷ ms) [] old t new asks rests c each = absurd c

  -- and one message behind them
  last_spared : (s : Shop) (ms : List Message) (xs : List (Reply × D)) (old : D) (t : Shop) (at : D) (m : Message)
      (reply : Reply) (new : D) → AskNothing s (ms ++ m ∷ []) → IsSettled (h.image old) s → IsChain h s ms xs old t at
      → AreSparing h (ms ++ m ∷ []) (xs ++ (reply, new) ∷ []) old → h.writes new ≤ h.writes old
  last_spared s [] [] old t at m reply new asks rests c each = each.0 s rests asks.0
  last_spared s (n ∷ ms) (x ∷ xs) old t at m reply new asks rests c each =
      let u = with_state s (after_all (start_of s) s.state c.0.counted) in
      let same : u ≡ s = shop_stays s n c.0.failed c.0.counted asks.0 c.0.is in
      let one : h.writes x.1 ≤ h.writes old = each.0 s rests asks.0 in
      let rest = last_spared u ms xs x.1 t at m reply new (subst (λ v. AskNothing v (ms ++ m ∷ [])) (sym same) asks.1)
      c.0.ends.settled c.1 each.1 in
      omega (arith, one, rest)
  last_spared s [] (x ∷ xs) old t at m reply new asks rests c each = absurd c
  last_spared s (n ∷ ms) [] old t at m reply new asks rests c each = absurd c

  -- an opening, and what came behind it
  behind : (s : Shop) (old first new : D) → Changes h old first 952 (λ i. IsShop i s)
      → (IsSettled (h.image old) s → Untouched h old first) → h.writes new ≤ h.writes first → IsSpared h s old new
  behind s old first new opening quiet rest = record {
    opening = omega (arith, opening.writes, rest);
    rests = λ settled. omega (arith, (quiet settled).writes, rest);
  }

  pub spared_run : (s : Shop) (ms : List Message) (xs : List (Reply × D)) (old new : D) → AskNothing s ms
      → (r : HasRun h s ms xs old new) → AreSparing h ms xs r.first → IsSpared h s old new
  spared_run s ms xs old new asks r each = behind s old r.first new r.opening r.quiet
      (chain_spared s ms xs r.first r.now new asks r.rests r.chain each)

  -- and one that the device ended
  pub spared_to_failure : (s : Shop) (ms : List Message) (xs : List (Reply × D)) (last : Reply) (old new : D)
      → AskNothing s ms → (f : HasRunToFailure h s ms xs last old new)
      → AreSparing h ms (xs ++ (last, new) ∷ []) f.run.first → IsSpared h s old new
  spared_to_failure s ms xs last old new asks f each =
      let r = f.run in
      behind s old r.first new r.opening r.quiet
      (last_spared s f.before xs r.first r.now f.at f.message last new
      (subst (λ all. AskNothing s all) (sym f.parts) asks) r.rests r.chain
      (subst (λ all. AreSparing h all (xs ++ (last, new) ∷ []) r.first) (sym f.parts) each))

  -- an opening that was refused
  pub spared_refused : (s : Shop) (old new : D) → Changes h old new 952 (λ i. IsShop i s)
      → (IsSettled (h.image old) s → Untouched h old new) → IsSpared h s old new
  spared_refused s old new opening quiet = record {
    opening = opening.writes;
    rests = λ settled. omega (arith, (quiet settled).writes);
  }

  -- nothing was done
  pub spared_same : (s : Shop) (d : D) → IsSpared h s d d
  spared_same s d = record { opening = omega arith; rests = λ _. omega arith }

  -- messages that ask nothing new were taken up to one of them
  pub spared_of_more : (s : Shop) (ms rest all : List Message) (old new : D) → ms ++ rest ≡ all
      → (AskNothing s ms → IsSpared h s old new) → AskNothing s all → IsSpared h s old new
  spared_of_more s ms rest all old new parts spared asks =
      spared (both_parts (AsksNothing s) ms rest (subst (λ xs. AskNothing s xs) (sym parts) asks)).0
