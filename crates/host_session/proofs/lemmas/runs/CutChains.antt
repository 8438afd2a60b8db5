-- Beginnings only grow: a chain of events, cut behind any of them.
use Rattle.std.proofs.Common.{◌≡◌, List, [], ◌∷◌, ◌++◌, refl, arith, length}
use Rattle.d64_image.specs.History.{History}
use Rattle.request_cards.specs.declared.reply.Reply.{Reply}
use Rattle.host_session.proofs.lemmas.Held.{start}
use Rattle.host_session.proofs.lemmas.runs.Chained.{chain_rests, whole}
use Rattle.host_session.specs.events.Counted.{after_all}
use Rattle.host_session.specs.events.Events.{Message}
use Rattle.host_session.specs.runs.Chains.{GrowsFrom, HasRun, IsChain}
use Rattle.host_session.specs.runs.Runs.{HeldBeginnings}
use Rattle.host_session.specs.shop.Shop.{IsSettled, IsShop, Shop, start_of, with_state}

module _ {D : Type 0} (h : History D) where
  -- a chain, cut behind any of its events
  pub record IsCutBehind (s : Shop) (ms ns : List Message) (xs ys : List (Reply × D)) (old : D) (t : Shop)
      (new : D) : Type 0 where
    pub mid : D
    pub now : Shop
    pub before : IsChain h s ms xs old now mid
    pub behind : IsChain h now ns ys mid t new

  pub cut_chain : (s : Shop) (ms ns : List Message) (xs ys : List (Reply × D)) (old : D) (t : Shop) (new : D)
      → length ms ≡ length xs → IsChain h s (ms ++ ns) (xs ++ ys) old t new → IsCutBehind s ms ns xs ys old t new
  cut_chain s [] ns [] ys old t new same c = record { mid = old; now = s; before = (refl, refl); behind = c }
  cut_chain s (m ∷ ms) ns (x ∷ xs) ys old t new same c =
      let q = cut_chain (with_state s (after_all (start_of s) s.state c.0.counted)) ms ns xs ys x.1 t new
      (omega (arith, same)) c.1 in
      record { mid = q.mid; now = q.now; before = (c.0, q.before); behind = q.behind }
  cut_chain s [] ns (x ∷ xs) ys old t new same c = cc
  cut_chain s (m ∷ ms) ns [] ys old t new same c = cc

  -- from that moment on no image is of a beginning before it
  pub only_grows : (s : Shop) (ms ns : List Message) (xs ys : List (Reply × D)) (old : D) (t : Shop) (new : D)
      → length ms ≡ length xs → IsSettled (h.image old) s → IsChain h s (ms ++ ns) (xs ++ ys) old t new
      → (q : IsCutBehind s ms ns xs ys old t new) × IsSettled (h.image q.mid) q.now
      × HeldBeginnings h q.now ns q.mid new
  only_grows s ms ns xs ys old t new same rests c =
      let q = cut_chain s ms ns xs ys old t new same c in
      let settled = chain_rests h s ms xs old q.mid q.now rests q.before in (
        q,
        settled,
        (whole h q.now ns ys q.mid new (record {
          first = q.mid;
          opening = record { held = start h q.mid (λ i. IsShop i q.now) settled.shop; writes = omega arith };
          quiet = λ _. record { held = start h q.mid (λ i. i ≡ h.image q.mid) refl; writes = omega arith };
          unfailed = refl;
          rests = settled;
          now = t;
          chain = q.behind;
        })).1,
      )

  pub run_grows : (s : Shop) (ms ns : List Message) (xs ys : List (Reply × D)) (old new : D) → length ms ≡ length xs
      → HasRun h s (ms ++ ns) (xs ++ ys) old new → GrowsFrom h s ms ns xs old new
  run_grows s ms ns xs ys old new same r =
      let q = only_grows s ms ns xs ys r.first r.now new same r.rests r.chain in
      record {
        at = q.0.mid;
        run = record {
          first = r.first;
          opening = r.opening;
          quiet = r.quiet;
          unfailed = r.unfailed;
          rests = r.rests;
          now = q.0.now;
          chain = q.0.before;
        };
        rests = q.1;
        behind = q.2;
      }
