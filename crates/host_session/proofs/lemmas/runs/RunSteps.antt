-- A run's beginning, its next event, and the failures that are counted in it.
use Rattle.std.proofs.Common.{◌≡◌, ◌≤◌, List, [], ◌∷◌, ◌++◌, refl, sym, subst, arith, le_of_eq, le_refl, le_trans}
use Rattle.d64_image.specs.History.{Failed, History}
use Rattle.request_cards.specs.declared.reply.Reply.{Reply}
use Rattle.host_session.specs.Held.{Changes}
use Rattle.host_session.proofs.lemmas.runs.Chained.{chain_more}
use Rattle.host_session.specs.events.Counted.{after_all}
use Rattle.host_session.specs.events.Events.{Message}
use Rattle.host_session.specs.events.OneEvent.{GoesOn, IsEvent}
use Rattle.host_session.specs.runs.Chains.{HasRun, HasRunToFailure, IsChain}
use Rattle.host_session.specs.session.Opening.{Untouched}
use Rattle.host_session.specs.shop.Shop.{IsSettled, IsShop, Shop, start_of, with_state}

module _ {D : Type 0} (h : History D) where
  -- the loop's turn: one event more
  pub run_more : (s : Shop) (ms : List Message) (xs : List (Reply × D)) (old mid new : D) (m : Message) (reply : Reply)
      → (r : HasRun h s ms xs old mid) → IsEvent h r.now m mid new (GoesOn h r.now m reply new)
      → HasRun h s (ms ++ m ∷ []) (xs ++ (reply, new) ∷ []) old new
  run_more s ms xs old mid new m reply r e = record {
    first = r.first;
    opening = r.opening;
    quiet = r.quiet;
    unfailed = r.unfailed;
    rests = r.rests;
    now = with_state r.now (after_all (start_of r.now) r.now.state e.counted);
    chain = chain_more h s ms xs r.first mid new r.now m reply r.chain e;
  }

  -- it began on the same disk
  pub run_more-first : (s : Shop) (ms : List Message) (xs : List (Reply × D)) (old mid new : D) (m : Message)
      (reply : Reply) → (r : HasRun h s ms xs old mid) (e : IsEvent h r.now m mid new (GoesOn h r.now m reply new))
      → (run_more s ms xs old mid new m reply r e).first ≡ r.first
  unfolding run_more
  run_more-first s ms xs old mid new m reply r e = refl

  -- before the first one
  pub run_none : (s : Shop) (old first : D) → Changes h old first 952 (λ i. IsShop i s)
      → (IsSettled (h.image old) s → Untouched h old first) → h.failures first ≡ h.failures old
      → IsSettled (h.image first) s → HasRun h s [] [] old first
  run_none s old first opening quiet unfailed settled = record {
    first = first;
    opening = opening;
    quiet = quiet;
    unfailed = unfailed;
    rests = settled;
    now = s;
    chain = (refl, refl);
  }

  -- failures are counted on
  chain_later : (s : Shop) (ms : List Message) (xs : List (Reply × D)) (old new : D) (t : Shop)
      → IsChain h s ms xs old t new → h.failures old ≤ h.failures new
  chain_later s [] [] old new t c = subst (λ d. h.failures old ≤ h.failures d) (sym c.1) (le_refl (h.failures old))
  chain_later s (m ∷ ms) (x ∷ xs) old new t c =
      let rest = chain_later (with_state s (after_all (start_of s) s.state c.0.counted)) ms xs x.1 new t c.1 in
      le_trans c.0.later rest
  chain_later s [] (x ∷ xs) old new t c = absurd c
  chain_later s (m ∷ ms) [] old new t c = absurd c

  pub run_later : (s : Shop) (ms : List Message) (xs : List (Reply × D)) (old new : D) → HasRun h s ms xs old new
      → h.failures old ≤ h.failures new
  run_later s ms xs old new r = le_trans (le_of_eq (sym r.unfailed)) (chain_later s ms xs r.first new r.now r.chain)

  -- where the last message met the failure, it came in the run
  pub run_failed : (s : Shop) (ms : List Message) (xs : List (Reply × D)) (last : Reply) (old new : D)
      → HasRunToFailure h s ms xs last old new → Failed h old new
  run_failed s ms xs last old new f =
      let before = run_later s f.before xs old f.at f.run in
      let x : Failed h f.at new = f.failed.blame f.failed.ends.is_failed in
      record { later = omega (arith, before, x.later); rose = λ lt. omega (arith, before, x.rose lt) }
