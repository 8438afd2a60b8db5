-- What a chain of events says of its run.
use Rattle.std.proofs.Common.{◌≡◌, ◌≢◌, List, [], ◌∷◌, ◌++◌, refl, sym, subst, ◌∙◌, ap, append_assoc, append-nil}
use Rattle.std.proofs.Common.{le_of_eq}
use Rattle.d64_image.specs.History.{History}
use Rattle.request_cards.specs.declared.reply.Reply.{Reply}
use Rattle.host_session.proofs.lemmas.runs.Runs.{HasPlayed, and_no_more, none_played, now_more, now_none, now_of}
use Rattle.host_session.proofs.lemmas.runs.Runs.{one_played, stopped, stopped_begun}
use Rattle.host_session.specs.events.Counted.{after_all}
use Rattle.host_session.specs.events.Events.{Message}
use Rattle.host_session.specs.events.Instants.{instant_of}
use Rattle.host_session.specs.events.OneEvent.{EndsFailed, GoesOn, IsEvent}
use Rattle.host_session.specs.events.Quiet.{AreUncut}
use Rattle.host_session.specs.runs.Runs.{HeldBeginnings, IsPlayedWhole, StoppedByDevice, StoppedByOutput}
use Rattle.host_session.specs.shop.Shop.{IsSettled, Shop, start_of, with_state}
use Rattle.host_session.specs.runs.Chains.{HasRun, HasRunToFailure, IsChain, asked_over, over_instants, told_in}

-- the replies, told over the disks beside them
pub told_over : {D : Type 0} (h : History D) (turns : List (Reply × D))
    → told_in (over_instants h turns) ≡ told_in turns
told_over h [] = refl
told_over h (x ∷ xs) = ap (λ rs. x.0 ∷ rs) (told_over h xs)

module _ {D : Type 0} (h : History D) where
  -- one event more at the end
  pub chain_more : (s : Shop) (ms : List Message) (xs : List (Reply × D)) (old mid new : D) (t : Shop) (m : Message)
      (reply : Reply) → IsChain h s ms xs old t mid → (e : IsEvent h t m mid new (GoesOn h t m reply new))
      → IsChain h s (ms ++ m ∷ []) (xs ++ (reply, new) ∷ []) old
      (with_state t (after_all (start_of t) t.state e.counted)) new
  chain_more s [] [] old mid new t m reply c e =
      let P : Shop → D → Type 0 = λ u d. (x : IsEvent h u m d new (GoesOn h u m reply new))
      → IsChain h s (m ∷ []) ((reply, new) ∷ []) old (with_state u (after_all (start_of u) u.state x.counted)) new in
      subst (λ u. P u mid) (sym c.0) (subst (λ d. P s d) (sym c.1) (λ x. (x, (refl, refl)))) e
  chain_more s (n ∷ ms) (x ∷ xs) old mid new t m reply c e =
      (c.0, chain_more (with_state s (after_all (start_of s) s.state c.0.counted)) ms xs x.1 mid new t m reply c.1 e)
  chain_more s [] (x ∷ xs) old mid new t m reply c e = absurd c
  chain_more s (n ∷ ms) [] old mid new t m reply c e = absurd c

  -- the end of a chain is at rest
  pub chain_rests : (s : Shop) (ms : List Message) (xs : List (Reply × D)) (old new : D) (t : Shop)
      → IsSettled (h.image old) s → IsChain h s ms xs old t new → IsSettled (h.image new) t
  chain_rests s [] [] old new t rests c =
      subst (λ u. IsSettled (h.image new) u) (sym c.0) (subst (λ d. IsSettled (h.image d) s) (sym c.1) rests)
  chain_rests s (m ∷ ms) (x ∷ xs) old new t rests c =
      chain_rests (with_state s (after_all (start_of s) s.state c.0.counted)) ms xs x.1 new t c.0.ends.settled c.1
  chain_rests s [] (x ∷ xs) old new t rests c = absurd c
  chain_rests s (m ∷ ms) [] old new t rests c = absurd c

  -- in a chain in which power stays no call failed
  pub chain_unfailed : (s : Shop) (ms : List Message) (xs : List (Reply × D)) (old new : D) (t : Shop) → AreUncut ms
      → IsChain h s ms xs old t new → h.failures new ≡ h.failures old
  chain_unfailed s [] [] old new t uncut c = ap h.failures c.1
  chain_unfailed s (m ∷ ms) (x ∷ xs) old new t uncut c =
      chain_unfailed (with_state s (after_all (start_of s) s.state c.0.counted)) ms xs x.1 new t uncut.1 c.1
      ∙ c.0.unfailed uncut.0 (c.0.ends.answered uncut.0)
  chain_unfailed s [] (x ∷ xs) old new t uncut c = absurd c
  chain_unfailed s (m ∷ ms) [] old new t uncut c = absurd c

  -- nor in a run
  pub run_unfailed : (s : Shop) (ms : List Message) (xs : List (Reply × D)) (old new : D) → AreUncut ms
      → HasRun h s ms xs old new → h.failures new ≡ h.failures old
  run_unfailed s ms xs old new uncut r = chain_unfailed s ms xs r.first new r.now uncut r.chain ∙ r.unfailed

  -- the next message is asked for over the disk on which a chain ended, whatever turns come after
  pub asked_more : (s : Shop) (ms : List Message) (xs ys : List (Reply × D)) (old mid : D) (t : Shop) (m : Message)
      → IsChain h s ms xs old t mid
      → asked_over h old (xs ++ ys) (ms ++ m ∷ []) ≡ asked_over h old xs ms ++ (m, instant_of h mid) ∷ []
  asked_more s [] [] ys old mid t m c = ap (λ d. (m, instant_of h d) ∷ []) (sym c.1)
  asked_more s (n ∷ ms) (x ∷ xs) ys old mid t m c =
      let rest = asked_more (with_state s (after_all (start_of s) s.state c.0.counted)) ms xs ys x.1 mid t m c.1 in
      ap (λ asked. (n, instant_of h old) ∷ asked) rest
  asked_more s [] (x ∷ xs) ys old mid t m c = absurd c
  asked_more s (n ∷ ms) [] ys old mid t m c = absurd c

  -- what was played, with the shop on which the next message finds itself
  abbrev PlayedTo : Shop → List Message → D → D → List Reply → Shop → Type 0
  PlayedTo s ms old new told t = (p : HasPlayed h s ms old new told) × (t ≡ now_of h s ms old new told p)

  -- a chain behind what was played is played
  pub chain_played : (s : Shop) (before : List Message) (old at : D) (told : List Reply)
      (p : HasPlayed h s before old at told) → (ms : List Message) (xs : List (Reply × D)) (new : D) (t : Shop)
      → IsChain h (now_of h s before old at told p) ms xs at t new
      → PlayedTo s (before ++ ms) old new (told ++ told_in xs) t
  chain_played s before old at told p [] [] new t c =
      subst (λ b. PlayedTo s b old new (told ++ []) t) (sym (append-nil before))
      (subst (λ r. PlayedTo s before old new r t) (sym (append-nil told))
      (subst (λ d. PlayedTo s before old d told t) (sym c.1) (p, c.0)))
  chain_played s before old at told p (m ∷ ms) (x ∷ xs) new t c =
      let q : HasPlayed h s (before ++ m ∷ []) old x.1 (told ++ x.0 ∷ []) =
      one_played h s before m old at x.1 told x.0 p c.0 in
      let rest : IsChain h (now_of h s (before ++ m ∷ []) old x.1 (told ++ x.0 ∷ []) q) ms xs x.1 t new =
      subst (λ u. IsChain h u ms xs x.1 t new) (sym (now_more h s before m old at x.1 told x.0 p c.0)) c.1 in
      let r = chain_played s (before ++ m ∷ []) old x.1 (told ++ x.0 ∷ []) q ms xs new t rest in
      subst (λ b. PlayedTo s b old new (told ++ (x.0 ∷ told_in xs)) t) (append_assoc before (m ∷ []) ms)
      (subst (λ b. PlayedTo s ((before ++ m ∷ []) ++ ms) old new b t) (append_assoc told (x.0 ∷ []) (told_in xs)) r)
  chain_played s before old at told p [] (x ∷ xs) new t c = absurd c
  chain_played s before old at told p (m ∷ ms) [] new t c = absurd c

  -- a run up to here, with all that the clauses say of it
  pub run_played : (s : Shop) (ms : List Message) (xs : List (Reply × D)) (old new : D) → (r : HasRun h s ms xs old new)
      → PlayedTo s ms old new (told_in xs) r.now
  run_played s ms xs old new r =
      let later = le_of_eq (sym r.unfailed) in
      let p : HasPlayed h s [] old r.first [] = none_played h s old r.first r.opening.held later r.rests in
      chain_played s [] old r.first [] p ms xs new r.now
      (subst (λ u. IsChain h u ms xs r.first r.now new) (sym (now_none h s old r.first r.opening.held later r.rests))
      r.chain)

  -- a whole run
  pub whole : (s : Shop) (ms : List Message) (xs : List (Reply × D)) (old new : D) → HasRun h s ms xs old new
      → IsPlayedWhole h s ms old new (told_in xs) × HeldBeginnings h s ms old new
  whole s ms xs old new r = (run_played s ms xs old new r).0

  -- one that the output ended
  pub at_output : (s : Shop) (ms rest all : List Message) (xs : List (Reply × D)) (old new : D) → ms ++ rest ≡ all
      → ms ≢ []
      → HasRun h s ms xs old new → StoppedByOutput h s all old new (told_in xs) × HeldBeginnings h s all old new
  at_output s ms rest all xs old new parts some r = and_no_more h s ms rest all old new (told_in xs) parts some
      (run_played s ms xs old new r).0

  -- one that the device ended
  pub at_device : (s : Shop) (ms rest all : List Message) (xs : List (Reply × D)) (last : Reply) (old new : D)
      → ms ++ rest ≡ all → HasRunToFailure h s ms xs last old new
      → StoppedByDevice h s all old new (told_in xs ++ last ∷ []) × HeldBeginnings h s all old new
  at_device s ms rest all xs last old new parts f =
      let p = run_played s f.before xs old f.at f.run in
      stopped h s f.before rest all f.message old f.at new (told_in xs) last p.0 (ap (λ b. b ++ rest) f.parts ∙ parts)
      (subst (λ u. IsEvent h u f.message f.at new (EndsFailed h u f.message last new)) p.1 f.failed)

  -- those are the messages that it was replied to
  pub device_begun : (s : Shop) (ms rest all : List Message) (xs : List (Reply × D)) (last : Reply) (old new : D)
      (parts : ms ++ rest ≡ all) (f : HasRunToFailure h s ms xs last old new)
      → (at_device s ms rest all xs last old new parts f).0.begun ≡ ms
  unfolding at_device
  device_begun s ms rest all xs last old new parts f =
      let p = run_played s f.before xs old f.at f.run in
      stopped_begun h s f.before rest all f.message old f.at new (told_in xs) last p.0 (ap (λ b. b ++ rest) f.parts ∙ parts)
      (subst (λ u. IsEvent h u f.message f.at new (EndsFailed h u f.message last new)) p.1 f.failed) ∙ f.parts

  -- the shop of a run is at rest at its end: so it was when the last reply was told
  pub run_rests : (s : Shop) (ms : List Message) (xs : List (Reply × D)) (old new : D) → (r : HasRun h s ms xs old new)
      → IsSettled (h.image new) r.now
  run_rests s ms xs old new r = chain_rests s ms xs r.first new r.now r.rests r.chain
