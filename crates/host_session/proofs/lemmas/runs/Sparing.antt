-- How many sectors the messages of a chain write: one message more, and all of them.
use Rattle.std.proofs.Common.{◌≡◌, ◌≤◌, ◌+◌, ◌∙◌, List, [], ◌∷◌, ◌++◌, None}
use Rattle.std.proofs.Common.{ap, arith, length, length-append, subst, sym}
use Rattle.std.specs.Prelude.{◌*◌}
use Rattle.d64_image.specs.History.{History}
use Rattle.host_session.specs.Held.{Changes}
use Rattle.d64_image.specs.Images.{Image}
use Rattle.request_cards.specs.declared.reply.Reply.{Reply}
use Rattle.host_session.proofs.lemmas.runs.QuietRuns.{both_parts}
use Rattle.host_session.specs.events.Counted.{after_all}
use Rattle.host_session.specs.events.Events.{Message}
use Rattle.host_session.specs.events.Quiet.{AreUncut}
use Rattle.host_session.specs.events.Within.{AreSparing, AreWithin, IsBounded, IsWithin, SparesTheDisk}
use Rattle.host_session.specs.runs.Chains.{HasRun, HasRunToFailure, IsChain}
use Rattle.host_session.specs.shop.Shop.{Shop, start_of, with_state}

pub within_more : {D : Type 0} (h : History D) (s : Shop) (ms : List Message) (xs : List (Reply × D)) (old mid new : D)
    (t : Shop) (m : Message) (reply : Reply) → IsChain h s ms xs old t mid → AreWithin h ms xs old
    → (m.cut_after ≡ None → IsWithin h m mid new) → AreWithin h (ms ++ m ∷ []) (xs ++ (reply, new) ∷ []) old
within_more h s [] [] old mid new t m reply c each one =
    (subst (λ d. m.cut_after ≡ None → IsWithin h m d new) c.1 one, tt)
within_more h s (n ∷ ms) (x ∷ xs) old mid new t m reply c each one = (
  each.0,
  within_more h (with_state s (after_all (start_of s) s.state c.0.counted)) ms xs x.1 mid new t m reply c.1 each.1 one,
)
within_more h s [] (x ∷ xs) old mid new t m reply c each one = absurd c
within_more h s (n ∷ ms) [] old mid new t m reply c each one = absurd c

-- and where they ask nothing new
pub sparing_more : {D : Type 0} (h : History D) (s : Shop) (ms : List Message) (xs : List (Reply × D)) (old mid new : D)
    (t : Shop) (m : Message) (reply : Reply) → IsChain h s ms xs old t mid → AreSparing h ms xs old
    → SparesTheDisk h m mid new → AreSparing h (ms ++ m ∷ []) (xs ++ (reply, new) ∷ []) old
sparing_more h s [] [] old mid new t m reply c each one = (subst (λ d. SparesTheDisk h m d new) c.1 one, tt)
sparing_more h s (n ∷ ms) (x ∷ xs) old mid new t m reply c each one = (
  each.0,
  sparing_more h (with_state s (after_all (start_of s) s.state c.0.counted)) ms xs x.1 mid new t m reply c.1 each.1 one,
)
sparing_more h s [] (x ∷ xs) old mid new t m reply c each one = absurd c
sparing_more h s (n ∷ ms) [] old mid new t m reply c each one = absurd c

module _ {D : Type 0} (h : History D) where
  -- the messages of a chain, in none of which power goes
  chain_bound : (s : Shop) (ms : List Message) (xs : List (Reply × D)) (old : D) (t : Shop) (new : D)
      → IsChain h s ms xs old t new → AreWithin h ms xs old → AreUncut ms
      → h.writes new ≤ h.writes old + 3618 * length ms
  chain_bound s [] [] old t new c each uncut =
      let same : h.writes new ≡ h.writes old = ap h.writes c.1 in omega (arith, same)
  chain_bound s (m ∷ ms) (x ∷ xs) old t new c each uncut =
      let one : h.writes x.1 ≤ h.writes old + 3618 = (each.0 uncut.0).most in
      let rest = chain_bound (with_state s (after_all (start_of s) s.state c.0.counted)) ms xs x.1 t new c.1 each.1
      uncut.1 in
      omega (arith, one, rest)
  chain_bound s [] (x ∷ xs) old t new c each uncut = absurd c
  chain_bound s (m ∷ ms) [] old t new c each uncut = absurd c

  -- and one message behind them
  last_bound : (s : Shop) (ms : List Message) (xs : List (Reply × D)) (old : D) (t : Shop) (at : D) (m : Message)
      (reply : Reply) (new : D) → IsChain h s ms xs old t at
      → AreWithin h (ms ++ m ∷ []) (xs ++ (reply, new) ∷ []) old → AreUncut (ms ++ m ∷ [])
      → h.writes new ≤ h.writes old + 3618 * length (ms ++ m ∷ [])
  last_bound s [] [] old t at m reply new c each uncut =
      let one : h.writes new ≤ h.writes old + 3618 = (each.0 uncut.0).most in omega (arith, one)
  last_bound s (n ∷ ms) (x ∷ xs) old t at m reply new c each uncut =
      let one : h.writes x.1 ≤ h.writes old + 3618 = (each.0 uncut.0).most in
      let rest = last_bound (with_state s (after_all (start_of s) s.state c.0.counted)) ms xs x.1 t at m reply new c.1
      each.1 uncut.1 in
      omega (arith, one, rest)
  last_bound s [] (x ∷ xs) old t at m reply new c each uncut = absurd c
  last_bound s (n ∷ ms) [] old t at m reply new c each uncut = absurd c

  -- a run, with its opening
  pub run_bound : (s : Shop) (ms : List Message) (xs : List (Reply × D)) (old new : D) (r : HasRun h s ms xs old new)
      → AreWithin h ms xs r.first → AreUncut ms → IsBounded h ms old new
  run_bound s ms xs old new r each uncut =
      let opened : h.writes r.first ≤ h.writes old + 952 = r.opening.writes in
      let rest = chain_bound s ms xs r.first r.now new r.chain each uncut in
      omega (arith, opened, rest)

  -- and one in the last message of which the device failed
  pub failure_bound : (s : Shop) (ms : List Message) (xs : List (Reply × D)) (last : Reply) (old new : D)
      (f : HasRunToFailure h s ms xs last old new)
      → AreWithin h ms (xs ++ (last, new) ∷ []) f.run.first → AreUncut ms → IsBounded h ms old new
  failure_bound s ms xs last old new f each uncut =
      let r = f.run in
      let opened : h.writes r.first ≤ h.writes old + 952 = r.opening.writes in
      let rest = last_bound s f.before xs r.first r.now f.at f.message last new r.chain
      (subst (λ all. AreWithin h all (xs ++ (last, new) ∷ []) r.first) (sym f.parts) each)
      (subst (λ all. AreUncut all) (sym f.parts) uncut) in
      subst (λ all. IsBounded h all old new) f.parts (omega (arith, opened, rest))

  -- an opening that was refused
  pub refused_bound : (P : Image → Type 0) (old new : D) → Changes h old new 952 P → IsBounded h [] old new
  refused_bound P old new x = omega (arith, x.writes)

  -- nothing was done
  pub same_bound : (ms : List Message) (d : D) → IsBounded h ms d d
  same_bound ms d = omega arith

  -- these messages are the beginning of some
  pub bound_of_more : (ms rest all : List Message) (old new : D) → ms ++ rest ≡ all
      → (AreUncut ms → IsBounded h ms old new) → AreUncut all → IsBounded h all old new
  bound_of_more ms rest all old new parts bound uncut =
      let each = both_parts (λ m. m.cut_after ≡ None) ms rest (subst (λ xs. AreUncut xs) (sym parts) uncut) in
      let long : length ms + length rest ≡ length all = sym (length-append ms rest) ∙ ap length parts in
      omega (arith, bound each.0, long)
