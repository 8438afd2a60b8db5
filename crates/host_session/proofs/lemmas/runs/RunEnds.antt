-- How a run over a source and an output ended, or that it was refused.
use Rattle.std.proofs.Common.{◌≡◌, ◌++◌, ⊎_elim, List, [], ◌∷◌, Ok, Err, refl, subst, ap, inl, inr}
use Rattle.std.proofs.Common.{append-nil, arith}
use Rattle.std.specs.Prelude.{Result}
use Rattle.d64_image.proofs.Moments.{never_failed}
use Rattle.d64_image.specs.History.{History, NeverFailed}
use Rattle.host_session.proofs.lemmas.runs.Chained.{at_device, whole}
use Rattle.host_session.proofs.lemmas.runs.RunSteps.{run_failed}
use Rattle.host_session.proofs.lemmas.runs.QuietRuns.{quiet_refused, quiet_run, quiet_to_failure}
use Rattle.host_session.proofs.lemmas.runs.QuietWrites.{spared_refused, spared_run, spared_to_failure}
use Rattle.host_session.proofs.lemmas.runs.Sparing.{failure_bound, refused_bound, run_bound}
use Rattle.host_session.proofs.lemmas.shop.Shops.{IsShop-one}
use Rattle.host_session.specs.declared.faults.OpenFault.{OpenFault}
use Rattle.host_session.specs.declared.faults.OpenFault.TheVariants as openings
use Rattle.host_session.specs.declared.runs.event_loop.LoopFault.{LoopFault}
use Rattle.host_session.specs.declared.runs.event_loop.LoopFault.TheVariants as faults
use Rattle.host_session.specs.events.Asking.{Source, messages_in}
use Rattle.host_session.specs.events.Events.{Message}
use Rattle.host_session.specs.events.Quiet.{AskNothing, IsQuiet}
use Rattle.host_session.specs.events.Telling.{Output}
use Rattle.host_session.specs.events.Within.{IsSpared}
use Rattle.host_session.specs.runs.Loops.{Ends, EndsBy, IsRun, Origin}
use Rattle.host_session.specs.runs.Loops.{IsRunToDevice, IsRunToOutput, IsRunWhole}
use Rattle.host_session.specs.runs.Runs.{HeldBeginnings, IsRefused}
use Rattle.host_session.specs.session.Opening.{IsAShop, Untouched}
use Rattle.host_session.specs.shop.Shop.{IsSettled, IsShop, Shop}

module _ {D A T : Type 0} (h : History D) (a : Source A) (o : Output T) (from : Origin D A T) where
  module _ (asks : A) (out : T) (is_shop : IsShop (h.image from.disk) from.shop) where
    same : (s : Shop) → IsShop (h.image from.disk) s → from.shop ≡ s
    same s is = IsShop-one (h.image from.disk) from.shop s is_shop is

    -- what these messages leave, where they ask nothing new
    abbrev IsQuietTo : List Message → D → Shop → Type 0
    IsQuietTo ms left t = AskNothing t ms → IsQuiet h t ms from.disk left

    -- and what it wrote then
    abbrev IsSparedTo : List Message → D → Shop → Type 0
    IsSparedTo ms left t = AskNothing t ms → IsSpared h t from.disk left

    by_input : (left : D) → EndsBy h a o from asks out left faults.Input
        → IsRun h a o from.disk from.asks asks from.out out (Err (faults.Input, left))
    by_input left e = record {
      taken = e.0;
      takes = e.1;
      shop = tt;
      ok = λ s is. tt;
      input = λ s is _. (e.2, subst (λ t. IsRunWhole h o t e.0 from.disk left from.out out) (same s is) e.3);
      unfailed = λ other. absurd (other left refl);
      output = λ s is (is_input : faults.Input ≡ faults.Output). cc;
      device = λ s is (is_input : faults.Input ≡ faults.Device). cc;
      moments = λ s is. subst (λ t. HeldBeginnings h t (messages_in e.0) from.disk left) (same s is)
          (whole h from.shop (messages_in e.0) e.3.0.turns from.disk left e.3.0.run).1;
      quiet = λ s is. subst (IsQuietTo (messages_in e.0) left) (same s is)
          (λ asks. quiet_run h from.shop (messages_in e.0) e.3.0.turns from.disk left asks e.3.0.run);
      spared = λ s is. subst (IsSparedTo (messages_in e.0) left) (same s is)
          (λ asks. spared_run h from.shop (messages_in e.0) e.3.0.turns from.disk left asks e.3.0.run e.3.3);
      writes = λ s is. run_bound h from.shop (messages_in e.0) e.3.0.turns from.disk left e.3.0.run e.3.2;
      wrote = λ s is. e.4;
      plays = λ shop never. inl refl;
      «open» = λ f (is_input : faults.Input ≡ faults.Open f). cc;
      cause = λ (is_input : faults.Input ≡ faults.Device). cc;
      after = λ _. (from.shop, is_shop);
    }

    by_output : (left : D) → EndsBy h a o from asks out left faults.Output
        → IsRun h a o from.disk from.asks asks from.out out (Err (faults.Output, left))
    by_output left e = record {
      taken = e.0;
      takes = e.1.0;
      shop = tt;
      ok = λ s is. tt;
      input = λ s is (is_output : faults.Output ≡ faults.Input). cc;
      unfailed = λ _. e.1.1;
      output = λ s is _. subst (λ t. IsRunToOutput h o t e.0 from.disk left from.out out) (same s is) e.2;
      device = λ s is (is_output : faults.Output ≡ faults.Device). cc;
      moments = λ s is. subst (λ t. HeldBeginnings h t (messages_in e.0) from.disk left) (same s is)
          (whole h from.shop (messages_in e.0) (e.2.0.turns ++ e.2.0.last ∷ []) from.disk left e.2.0.run).1;
      quiet = λ s is. subst (IsQuietTo (messages_in e.0) left) (same s is)
          (λ asks. quiet_run h from.shop (messages_in e.0) (e.2.0.turns ++ e.2.0.last ∷ []) from.disk left asks
          e.2.0.run);
      spared = λ s is. subst (IsSparedTo (messages_in e.0) left) (same s is)
          (λ asks. spared_run h from.shop (messages_in e.0) (e.2.0.turns ++ e.2.0.last ∷ []) from.disk left asks
          e.2.0.run e.2.3);
      writes = λ s is. run_bound h from.shop (messages_in e.0) (e.2.0.turns ++ e.2.0.last ∷ []) from.disk left e.2.0.run
          e.2.2;
      wrote = λ s is. e.3;
      plays = λ shop never. inr refl;
      «open» = λ f (is_output : faults.Output ≡ faults.Open f). cc;
      cause = λ (is_output : faults.Output ≡ faults.Device). cc;
      after = λ _. (from.shop, is_shop);
    }

    by_device : (left : D) → EndsBy h a o from asks out left faults.Device
        → IsRun h a o from.disk from.asks asks from.out out (Err (faults.Device, left))
    by_device left e =
        let failed = run_failed h from.shop (messages_in e.0) e.2.0.turns e.2.0.last from.disk left e.2.0.run in
        record {
          taken = e.0;
          takes = e.1.0;
          shop = tt;
          ok = λ s is. tt;
          input = λ s is (is_device : faults.Device ≡ faults.Input). cc;
          unfailed = λ _. e.1.1;
          output = λ s is (is_device : faults.Device ≡ faults.Output). cc;
          device = λ s is _. subst (λ t. IsRunToDevice h o t e.0 from.disk left from.out out) (same s is) e.2;
          moments = λ s is. subst (λ t. HeldBeginnings h t (messages_in e.0) from.disk left) (same s is)
              (at_device h from.shop (messages_in e.0) [] (messages_in e.0) e.2.0.turns e.2.0.last from.disk left
              (append-nil (messages_in e.0)) e.2.0.run).1;
          quiet = λ s is. subst (IsQuietTo (messages_in e.0) left) (same s is)
              (λ asks. quiet_to_failure h from.shop (messages_in e.0) e.2.0.turns e.2.0.last from.disk left asks
              e.2.0.run);
          spared = λ s is. subst (IsSparedTo (messages_in e.0) left) (same s is)
              (λ asks. spared_to_failure h from.shop (messages_in e.0) e.2.0.turns e.2.0.last from.disk left asks
              e.2.0.run e.2.3);
          writes = λ s is. failure_bound h from.shop (messages_in e.0) e.2.0.turns e.2.0.last from.disk left e.2.0.run
              e.2.2;
          wrote = λ s is. e.3;
          plays = λ shop never. absurd (never_failed h _ _ never failed);
          «open» = λ f (is_device : faults.Device ≡ faults.Open f). cc;
          cause = λ _. ((from.shop, is_shop), failed);
          after = λ is. ⊎_elim (λ (x : faults.Device ≡ faults.Input). cc) (λ (x : faults.Device ≡ faults.Output). cc)
              is;
        }

    run_by : (left : D) (f : LoopFault) → EndsBy h a o from asks out left f
        → IsRun h a o from.disk from.asks asks from.out out (Err (f, left))
    run_by left (faults.Open f) e = absurd e
    run_by left faults.Input e = by_input left e
    run_by left faults.Output e = by_output left e
    run_by left faults.Device e = by_device left e

    -- a run that was opened has ended
    pub run_ended : (result : Result D (LoopFault × D)) → Ends h a o from asks out result
        → IsRun h a o from.disk from.asks asks from.out out result
    run_ended (Ok left) e = record {
      taken = e.0;
      takes = e.1.0;
      shop = ((from.shop, is_shop), e.2);
      ok = λ s is. subst (λ t. IsRunWhole h o t e.0 from.disk left from.out out) (same s is) e.3;
      input = λ s is. tt;
      unfailed = λ _. e.1.1;
      output = λ s is. tt;
      device = λ s is. tt;
      moments = λ s is. subst (λ t. HeldBeginnings h t (messages_in e.0) from.disk left) (same s is)
          (whole h from.shop (messages_in e.0) e.3.0.turns from.disk left e.3.0.run).1;
      quiet = λ s is. subst (IsQuietTo (messages_in e.0) left) (same s is)
          (λ asks. quiet_run h from.shop (messages_in e.0) e.3.0.turns from.disk left asks e.3.0.run);
      spared = λ s is. subst (IsSparedTo (messages_in e.0) left) (same s is)
          (λ asks. spared_run h from.shop (messages_in e.0) e.3.0.turns from.disk left asks e.3.0.run e.3.3);
      writes = λ s is. run_bound h from.shop (messages_in e.0) e.3.0.turns from.disk left e.3.0.run e.3.2;
      wrote = λ s is. e.4;
      plays = λ shop never. tt;
      «open» = tt;
      cause = tt;
      after = tt;
    }
    run_ended (Err e) ends = run_by e.1 e.0 ends

-- the fault of an opening
abbrev opened_with : LoopFault → OpenFault
opened_with (faults.Open f) = f
opened_with _ = openings.Device

-- a run that was refused
pub run_refused : {D A T : Type 0} (h : History D) (a : Source A) (o : Output T) (disk left : D) (asks : A) (out : T)
    (f : OpenFault)
    → IsRefused h disk f left → ((s : Shop) → IsShop (h.image disk) s → HeldBeginnings h s [] disk left)
    → ((s : Shop) → IsSettled (h.image disk) s → Untouched h disk left)
    → (IsAShop (h.image disk) → NeverFailed h disk left → ⊥)
    → IsRun h a o disk asks asks out out (Err (faults.Open f, left))
run_refused h a o disk left asks out f refused held quiet fails = record {
  taken = [];
  takes = a.none asks;
  shop = tt;
  ok = λ s is. tt;
  input = λ s is (e : faults.Open f ≡ faults.Input). cc;
  unfailed = λ _ failed. failed;
  output = λ s is (e : faults.Open f ≡ faults.Output). cc;
  device = λ s is (e : faults.Open f ≡ faults.Device). cc;
  moments = held;
  quiet = λ s is _. quiet_refused h s disk left (refused.same s is) (quiet s);
  spared = λ s is _. spared_refused h s disk left (refused.same s is) (quiet s);
  writes = λ s is _. refused_bound h (λ i. IsShop i s) disk left (refused.same s is);
  wrote = λ s is. omega (arith, (refused.same s is).writes);
  plays = λ shop never. absurd (fails shop never);
  «open» = λ x e. (subst (λ y. IsRefused h disk y left) (ap opened_with e) refused, refl, refl, refl);
  cause = λ (e : faults.Open f ≡ faults.Device). cc;
  after = λ e. ⊎_elim (λ (x : faults.Open f ≡ faults.Input). cc) (λ (x : faults.Open f ≡ faults.Output). cc) e;
}
