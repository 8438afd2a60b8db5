-- A run in a loop: one event more, or the last one.
use Rattle.std.proofs.Common.{◌≡◌, ◌≤◌, ◌<◌, ◌+◌, ◌++◌, ◌⊎◌, List, [], ◌∷◌, None, Ok, Err}
use Rattle.std.proofs.Common.{refl, sym, subst, ap, ◌∙◌, arith, inl, inr, length, length-append, append-nil}
use Rattle.std.proofs.lemmas.List.{map-append}
use Rattle.std.specs.Prelude.{Result}
use Rattle.d64_image.specs.History.{History}
use Rattle.host_session.specs.Held.{Changes}
use Rattle.request_cards.specs.declared.reply.Reply.{Reply}
use Rattle.host_session.proofs.lemmas.runs.Chained.{asked_more, run_rests}
use Rattle.host_session.proofs.lemmas.runs.RunSteps.{run_more, run_more-first, run_none}
use Rattle.host_session.proofs.lemmas.runs.Sparing.{sparing_more, within_more}
use Rattle.host_session.specs.declared.runs.event_loop.LoopFault.TheVariants as faults
use Rattle.host_session.specs.events.Asking.{FailsNoMore, Source, TakesNone, TakesOne, messages_in}
use Rattle.host_session.specs.events.Events.{Message}
use Rattle.host_session.specs.events.Instants.{Instant, instant_of}
use Rattle.host_session.specs.events.OneEvent.{EndsFailed, GoesOn, IsEvent}
use Rattle.host_session.specs.events.Telling.{BreaksOff, IsTold, Output, TellsOne}
use Rattle.host_session.specs.events.Within.{AreSparing, AreWithin, AreWithinMost, IsWithin, IsWithinMost, SparesTheDisk}
use Rattle.host_session.specs.events.Within.{most_of, most_of_each}
use Rattle.host_session.specs.runs.Chains.{asked_over, over_instants}
use Rattle.host_session.specs.runs.Loops.{Ends, EndsBy, HasCome, HasComeBut, Origin}
use Rattle.host_session.specs.runs.Loops.{IsToldToDevice, IsToldToOutput, IsToldWhole}
use Rattle.host_session.specs.session.Opening.{Untouched}
use Rattle.host_session.specs.shop.Shop.{IsSettled, IsShop, Shop}

most_more : (ms : List Message) (m : Message) → most_of_each (ms ++ m ∷ []) ≡ most_of_each ms + most_of m
most_more [] m = omega arith
most_more (n ∷ ms) m = let rest = most_more ms m in omega (arith, rest)

over_more : {D : Type 0} (h : History D) (xs : List (Reply × D)) (reply : Reply) (disk : D)
    → over_instants h (xs ++ (reply, disk) ∷ []) ≡ over_instants h xs ++ (reply, instant_of h disk) ∷ []
over_more h [] reply disk = refl
over_more h (x ∷ xs) reply disk = ap (λ ys. (x.0, instant_of h x.1) ∷ ys) (over_more h xs reply disk)

module _ {D A T : Type 0} (h : History D) (a : Source A) (o : Output T) (from : Origin D A T) where
  -- before the first event
  pub has_none : (first : D) → Changes h from.disk first 952 (λ i. IsShop i from.shop)
      → (IsSettled (h.image from.disk) from.shop → Untouched h from.disk first)
      → h.failures first ≡ h.failures from.disk
      → IsSettled (h.image first) from.shop → HasCome h a o from first from.asks from.out
  has_none first opening quiet unfailed rests = record {
    taken = [];
    is = (a.none from.asks, λ failed. failed);
    whole = (
      record {
        turns = [];
        run = run_none h from.shop from.disk first opening quiet unfailed rests;
        told = o.none from.out;
      },
      refl,
      tt,
      tt,
    );
    room = omega arith;
    wrote = omega (arith, opening.writes);
  }

  -- the next event was taken, or there was none
  module _ (disk : D) (asks now : A) (out : T) (w : HasCome h a o from disk asks out) where
    pub takes_one : TakesOne a asks now (instant_of h disk) → FailsNoMore a asks now
        → HasComeBut h a o from disk now out
    takes_one takes sound = record {
      taken = w.taken;
      is = (takes from.asks w.taken w.is.0, λ failed. w.is.1 (sound failed));
      whole = w.whole;
      room = w.room;
      wrote = w.wrote;
    }

    pub at_end : TakesNone a asks now × a.is_over now × FailsNoMore a asks now → Ends h a o from now out (Ok disk)
    at_end x = (w.taken, (x.0 from.asks w.taken w.is.0, λ failed. w.is.1 (x.2 failed)), x.1, w.whole, w.wrote)

    pub at_fault : TakesNone a asks now × a.has_failed now → EndsBy h a o from now out disk faults.Input
    at_fault x = (w.taken, x.0 from.asks w.taken w.is.0, x.1, w.whole, w.wrote)

  module _ (mid new : D) (asks : A) (reply : Reply) (out told : T) where
    -- with the event that is here
    abbrev TakenNow : HasComeBut h a o from mid asks out → List (Message × Instant)
    TakenNow w = w.taken ++ (a.here asks, instant_of h mid) ∷ []

    messages_now : (w : HasComeBut h a o from mid asks out)
        → messages_in (TakenNow w) ≡ messages_in w.taken ++ a.here asks ∷ []
    messages_now w = map-append (λ x. x.0) w.taken ((a.here asks, instant_of h mid) ∷ [])

    -- it was asked for over the disk that the ones before it left
    over_now : (w : HasComeBut h a o from mid asks out) (ys : List (Reply × D)) (first : D)
        → first ≡ w.whole.0.run.first
        → TakenNow w ≡ asked_over h first (w.whole.0.turns ++ ys) (messages_in w.taken ++ a.here asks ∷ [])
    over_now w ys first same =
        let r = w.whole.0.run in
        ap (λ asked. asked ++ (a.here asks, instant_of h mid) ∷ []) w.whole.1
        ∙ sym (asked_more h from.shop (messages_in w.taken) w.whole.0.turns ys r.first mid r.now (a.here asks) r.chain)
        ∙ ap (λ d. asked_over h d (w.whole.0.turns ++ ys) (messages_in w.taken ++ a.here asks ∷ [])) (sym same)

    -- and so many sectors were written, where power doesn't go in it
    abbrev Within : Type 0
    Within = (a.here asks).cut_after ≡ None → (t : Shop) → IsSettled (h.image mid) t → IsWithin h (a.here asks) mid new

    within_now : (w : HasComeBut h a o from mid asks out) (first : D) → first ≡ w.whole.0.run.first → Within
        → AreWithin h (messages_in w.taken ++ a.here asks ∷ []) (w.whole.0.turns ++ (reply, new) ∷ []) first
    within_now w first same one =
        let r = w.whole.0.run in
        subst (λ d. AreWithin h (messages_in w.taken ++ a.here asks ∷ []) (w.whole.0.turns ++ (reply, new) ∷ []) d)
        (sym same)
        (within_more h from.shop (messages_in w.taken) w.whole.0.turns r.first mid new r.now (a.here asks) reply r.chain
        w.whole.2 (λ none. one none r.now
        (run_rests h from.shop (messages_in w.taken) w.whole.0.turns from.disk mid w.whole.0.run)))

    -- and where it asks nothing new
    abbrev Spares : Type 0
    Spares = SparesTheDisk h (a.here asks) mid new

    sparing_now : (w : HasComeBut h a o from mid asks out) (first : D) → first ≡ w.whole.0.run.first → Spares
        → AreSparing h (messages_in w.taken ++ a.here asks ∷ []) (w.whole.0.turns ++ (reply, new) ∷ []) first
    sparing_now w first same one =
        let r = w.whole.0.run in
        subst (λ d. AreSparing h (messages_in w.taken ++ a.here asks ∷ []) (w.whole.0.turns ++ (reply, new) ∷ []) d)
        (sym same)
        (sparing_more h from.shop (messages_in w.taken) w.whole.0.turns r.first mid new r.now (a.here asks) reply
        r.chain w.whole.3 one)

    -- and no more than it may, wherever power goes
    abbrev Most : Type 0
    Most = IsWithinMost h (a.here asks) mid new

    most_now : (w : HasComeBut h a o from mid asks out) → Most
        → AreWithinMost h (messages_in w.taken ++ a.here asks ∷ []) from.disk new
    most_now w one =
        let r = w.whole.0.run in
        let last = one r.now (run_rests h from.shop (messages_in w.taken) w.whole.0.turns from.disk mid r) in
        omega (arith, w.wrote, last, most_more (messages_in w.taken) (a.here asks))

    -- the event that is here was run, and its reply told
    pub goes_on : (Alive : Type 0) → TellsOne o out told reply (instant_of h new) × (o.room out ≤ o.room told + 1)
        → ((t : Shop) → IsSettled (h.image mid) t
        → Alive × IsEvent h t (a.here asks) mid new (GoesOn h t (a.here asks) reply new))
        → Within
        → Spares
        → Most
        → HasComeBut h a o from mid asks out → Alive × HasCome h a o from new asks told
    goes_on Alive tells event within spares most w =
        let x = w.whole.0 in
        let e = event x.run.now (run_rests h from.shop (messages_in w.taken) x.turns from.disk mid x.run) in
        let last : List (Reply × D) = (reply, new) ∷ [] in
        let Told : List Message → Type 0 = λ ms. (y : IsToldWhole h o from.shop ms from.disk new from.out told)
        × (TakenNow w ≡ asked_over h y.run.first y.turns ms) × AreWithin h ms y.turns y.run.first
        × AreSparing h ms y.turns y.run.first
        × (o.room from.out ≤ o.room told + length ms) × AreWithinMost h ms from.disk new in
        let y = subst Told (sym (messages_now w)) (
          record {
            turns = x.turns ++ last;
            run = run_more h from.shop (messages_in w.taken) x.turns from.disk mid new (a.here asks) reply x.run e.1;
            told = subst (λ xs. o.told from.out told xs) (sym (over_more h x.turns reply new))
                (tells.0 from.out (over_instants h x.turns) x.told);
          },
          over_now w last _
              (run_more-first h from.shop (messages_in w.taken) x.turns from.disk mid new (a.here asks) reply x.run
              e.1),
          within_now w _
              (run_more-first h from.shop (messages_in w.taken) x.turns from.disk mid new (a.here asks) reply x.run e.1)
              within,
          sparing_now w _
              (run_more-first h from.shop (messages_in w.taken) x.turns from.disk mid new (a.here asks) reply x.run e.1)
              spares,
          omega (arith, w.room, tells.1, length-append (messages_in w.taken) (a.here asks ∷ [])),
          most_now w most,
        ) in
        (e.0, record { taken = TakenNow w; is = w.is; whole = (y.0, y.1, y.2, y.3); room = y.4; wrote = y.5 })

    -- it was run, and the output didn't take its reply
    pub breaks_off : (Alive : Type 0) → BreaksOff o out told reply (instant_of h new) × (o.room out ≡ 0)
        → ((t : Shop) → IsSettled (h.image mid) t
        → Alive × IsEvent h t (a.here asks) mid new (GoesOn h t (a.here asks) reply new))
        → Within
        → Spares
        → Most
        → HasComeBut h a o from mid asks out → EndsBy h a o from asks told new faults.Output
    breaks_off Alive breaks event within spares most w =
        let x = w.whole.0 in
        let e = event x.run.now (run_rests h from.shop (messages_in w.taken) x.turns from.disk mid x.run) in
        let run = run_more h from.shop (messages_in w.taken) x.turns from.disk mid new (a.here asks) reply x.run e.1 in
        let same =
        run_more-first h from.shop (messages_in w.taken) x.turns from.disk mid new (a.here asks) reply x.run e.1 in
        let Told : List Message → Type 0 = λ ms. (y : IsToldToOutput h o from.shop ms from.disk new from.out told)
        × (TakenNow w ≡ asked_over h y.run.first y.turns ms)
        × AreWithin h ms (y.turns ++ y.last ∷ []) y.run.first
        × AreSparing h ms (y.turns ++ y.last ∷ []) y.run.first in
        let both : AreWithinMost h (messages_in (TakenNow w)) from.disk new =
        subst (λ ms. AreWithinMost h ms from.disk new) (sym (messages_now w)) (most_now w most) in (
          TakenNow w,
          w.is,
          subst Told (sym (messages_now w)) (
            record {
              full = omega (arith, w.room, breaks.1, length-append (messages_in w.taken) (a.here asks ∷ []));
              turns = x.turns;
              last = (reply, new);
              run = run;
              told = breaks.0 from.out (over_instants h x.turns) x.told;
            },
            over_now w [] _ same
                ∙ ap (λ turns. asked_over h run.first turns (messages_in w.taken ++ a.here asks ∷ []))
                (append-nil x.turns),
            within_now w _ same within,
            sparing_now w _ same spares,
          ),
          both,
        )

    -- the device failed in it
    pub fails : {E : Type 0} (result : Result Unit E) → IsTold o out told reply (instant_of h new) result
        → ((t : Shop) → IsSettled (h.image mid) t
        → IsEvent h t (a.here asks) mid new (EndsFailed h t (a.here asks) reply new))
        → Within
        → Spares
        → Most
        → HasComeBut h a o from mid asks out → EndsBy h a o from asks told new faults.Device
    fails result tells event within spares most w =
        let x = w.whole.0 in
        let Told : List Message → Type 0 = λ ms. (y : IsToldToDevice h o from.shop ms from.disk new from.out told)
        × (TakenNow w ≡ asked_over h y.run.run.first y.turns ms)
        × AreWithin h ms (y.turns ++ (y.last, new) ∷ []) y.run.run.first
        × AreSparing h ms (y.turns ++ (y.last, new) ∷ []) y.run.run.first in
        let both : AreWithinMost h (messages_in (TakenNow w)) from.disk new =
        subst (λ ms. AreWithinMost h ms from.disk new) (sym (messages_now w)) (most_now w most) in (
          TakenNow w,
          w.is,
          subst Told (sym (messages_now w)) (
            record {
              turns = x.turns;
              last = reply;
              run = record {
                before = messages_in w.taken;
                message = a.here asks;
                parts = refl;
                at = mid;
                run = x.run;
                failed = event x.run.now (run_rests h from.shop (messages_in w.taken) x.turns from.disk mid x.run);
              };
              told = pick result tells;
            },
            over_now w [] x.run.first refl
                ∙ ap (λ turns. asked_over h x.run.first turns (messages_in w.taken ++ a.here asks ∷ []))
                (append-nil x.turns),
            within_now w x.run.first refl within,
            sparing_now w x.run.first refl spares,
          ),
          both,
        )
      where
        pick : {E : Type 0} (result : Result Unit E) → IsTold o out told reply (instant_of h new) result
            → o.told from.out told (over_instants h w.whole.0.turns ++ (reply, instant_of h new) ∷ [])
            ⊎ (o.broken_off from.out told (over_instants h w.whole.0.turns) (reply, instant_of h new)
            × (o.room from.out < length (messages_in w.taken ++ a.here asks ∷ [])))
        pick (Ok x) tells = inl (tells.0 from.out (over_instants h w.whole.0.turns) w.whole.0.told)
        pick (Err x) tells = inr (
          tells.0 from.out (over_instants h w.whole.0.turns) w.whole.0.told,
          omega (arith, w.room, tells.1, length-append (messages_in w.taken) (a.here asks ∷ [])),
        )
