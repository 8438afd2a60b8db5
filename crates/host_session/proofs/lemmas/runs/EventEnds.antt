-- What a run over a list of events comes to.
use Rattle.std.proofs.Common.{◌≡◌, ◌≢◌, ◌<◌, ◌≤◌, ◌-◌, ◌++◌, ◌+◌, ◌∙◌, ⊎_elim, ℕ, zero, suc, List, [], ◌∷◌, Ok, Err}
use Rattle.std.proofs.Common.{refl, sym, subst, ap, arith, inl, inr, length, length-append, append-nil, map, drop}
use Rattle.std.proofs.Common.{Result, ne_eqb}
use Rattle.std.specs.Prelude.{Vec, slice_get, vec_capacity, vec_len}
use Rattle.std.specs.declared.alloc.Global.{Global}
use Rattle.std.proofs.lemmas.List.{drop_all}
use Rattle.d64_image.specs.History.{Failed, History, NeverFailed}
use Rattle.request_cards.specs.declared.reply.Reply.{Reply}
use Rattle.line_text.specs.declared.scripts.events.Event.{Event}
use Rattle.host_session.proofs.lemmas.events.Printed.{told_more}
use Rattle.host_session.proofs.lemmas.runs.Chained.{at_device, device_begun, run_unfailed, told_over, whole}
use Rattle.host_session.proofs.lemmas.runs.QuietRuns.{quiet_of_more}
use Rattle.host_session.proofs.lemmas.runs.QuietWrites.{spared_of_more}
use Rattle.host_session.proofs.lemmas.runs.Runs.{held_of_more}
use Rattle.host_session.proofs.lemmas.runs.Sparing.{bound_of_more}
use Rattle.host_session.specs.declared.events.sources.EventList.{EventList}
use Rattle.host_session.specs.declared.faults.OpenFault.{OpenFault}
use Rattle.host_session.specs.declared.faults.OpenFault.TheVariants as openings
use Rattle.host_session.specs.declared.runs.event_loop.LoopFault.{LoopFault}
use Rattle.host_session.specs.declared.runs.event_loop.LoopFault.TheVariants as runs
use Rattle.host_session.specs.declared.runs.plays.PlayFault.{PlayFault}
use Rattle.host_session.specs.declared.runs.plays.PlayFault.TheVariants as ends
use Rattle.host_session.specs.events.Asking.{last_taken, message_here, messages_in, of_events}
use Rattle.host_session.specs.events.Events.{Message, message_of}
use Rattle.host_session.specs.events.Instants.{Instant, instant_of}
use Rattle.host_session.specs.events.Quiet.{AreUncut, AskNothing, IsQuiet}
use Rattle.host_session.specs.events.Within.{AreWithinMost, IsBounded, IsSpared}
use Rattle.host_session.specs.runs.Chains.{over_instants, told_in}
use Rattle.host_session.specs.runs.Faults.{play_fault_of}
use Rattle.host_session.specs.runs.Loops.{IsRun, IsToldWhole}
use Rattle.host_session.specs.runs.Outputs.{listed}
use Rattle.host_session.specs.runs.Runs.{HeldBeginnings, IsPlayedWhole, IsRefused, StoppedByDevice}
use Rattle.host_session.specs.session.Opening.{IsAShop, disk_of}
use Rattle.host_session.specs.shop.Shop.{IsShop, Shop}

-- the messages that are left, the next one first
pub next_taken : (es : List Event) (i : ℕ) → i < length es
    → map message_of (drop i es) ≡ message_here (slice_get es i) ∷ map message_of (drop (i + 1) es)
next_taken [] i below = absurd (omega (arith, below))
next_taken (e ∷ es) zero below = refl
next_taken (e ∷ es) (suc i) below =
    let on : suc i + 1 ≡ suc (i + 1) = omega arith in
    next_taken es i (omega (arith, below)) ∙ ap (λ k. message_here (slice_get es i) ∷ map message_of (drop k (e ∷ es)))
    (sym on)

pub taken_last : (es : List Event) (n : ℕ) → last_taken (n + 1) es ≡ slice_get es n
taken_last es n =
    let other : n + 1 ≢ 0 = λ e. omega (arith, e) in
    let back : n + 1 - 1 ≡ n = omega arith in
    rw (ne_eqb (n + 1) 0 other) (ap (λ k. slice_get es k) back)

length_messages : (es : List Event) → length (map message_of es) ≡ length es
length_messages [] = refl
length_messages (e ∷ es) = let rest = length_messages es in omega (arith, rest)

-- the fault of an opening
abbrev opened_with : PlayFault → OpenFault
opened_with (ends.Open f) = f
opened_with _ = openings.Device

-- A run of events that this fault ended.
pub record IsEventsEnd {D : Type 0} (h : History D) (disk left : D) (ms : List Message) (old new : List Reply)
    (e : PlayFault) : Type 0 where
  pub device : (s : Shop) → IsShop (h.image disk) s → e ≡ ends.Device
      → (told : List Reply) × (new ≡ old ++ told) × (p : StoppedByDevice h s ms disk left told)
      × AreWithinMost h p.begun disk left
  pub moments : (s : Shop) → IsShop (h.image disk) s → HeldBeginnings h s ms disk left
  pub quiet : (s : Shop) → IsShop (h.image disk) s → AskNothing s ms → IsQuiet h s ms disk left
  pub spared : (s : Shop) → IsShop (h.image disk) s → AskNothing s ms → IsSpared h s disk left
  pub writes : (s : Shop) → IsShop (h.image disk) s → AreUncut ms → IsBounded h ms disk left
  pub plays : IsAShop (h.image disk) → NeverFailed h disk left → e ≡ ends.NoMemory
  pub «open» : (f : OpenFault) → e ≡ ends.Open f → IsRefused h disk f left
  pub cause : e ≡ ends.Device → IsAShop (h.image disk) × Failed h disk left
  pub memory : e ≢ ends.NoMemory
  pub silent : e ≢ ends.Device → new ≡ old

module _ {D : Type 0} (h : History D) (disk : D) (events : List Event) (asked asks : EventList)
    (old new : Vec Reply Global)
    (is_all : asked.events.now ≡ events) (from : asked.taken ≡ 0) (room : length events ≤ vec_capacity old - vec_len
    old) where
  parts : (taken : List (Message × Instant)) → of_events.gives asked asks taken
      → messages_in taken ++ map message_of (drop asks.taken asked.events.now) ≡ map message_of events
  parts taken takes = sym takes.1 ∙ ap (λ n. map message_of (drop n asked.events.now)) from ∙ ap (map message_of) is_all

  -- there was room for all
  too_many : (taken : List (Message × Instant)) → of_events.gives asked asks taken
      → vec_capacity old - vec_len old < length (messages_in taken) → ⊥
  too_many taken takes less =
      let all = ap length (parts taken takes) in
      let both = length-append (messages_in taken) (map message_of (drop asks.taken asked.events.now)) in
      omega (arith, all, both, room, less, length_messages events)

  -- what the events that were taken wrote, all of them may
  sparing : (r : Result D (LoopFault × D)) → IsRun h of_events listed disk asked asks old new r
      → (s : Shop) → IsShop (h.image disk) s → AreUncut (map message_of events)
      → IsBounded h (map message_of events) disk (disk_of (λ d. d) r)
  sparing r k s is = bound_of_more h (messages_in k.taken) (map message_of (drop asks.taken asked.events.now))
      (map message_of events) disk (disk_of (λ d. d) r) (parts k.taken k.takes) (k.writes s is)

  -- and where they ask nothing new
  pub spared : (r : Result D (LoopFault × D)) → IsRun h of_events listed disk asked asks old new r
      → (s : Shop) → IsShop (h.image disk) s → AskNothing s (map message_of events)
      → IsSpared h s disk (disk_of (λ d. d) r)
  spared r k s is = spared_of_more h s (messages_in k.taken) (map message_of (drop asks.taken asked.events.now))
      (map message_of events) disk (disk_of (λ d. d) r) (parts k.taken k.takes) (k.spared s is)

  -- all were taken
  pub whole_run : (left : D) → IsRun h of_events listed disk asked asks old new (Ok left)
      → ((s : Shop) → IsShop (h.image disk) s → (told : List Reply) × (new.items ≡ old.items ++ told)
      × IsPlayedWhole h s (map message_of events) disk left told)
      × ((s : Shop) → IsShop (h.image disk) s → HeldBeginnings h s (map message_of events) disk left)
      × ((s : Shop) → IsShop (h.image disk) s → AskNothing s (map message_of events)
      → IsQuiet h s (map message_of events) disk left)
      × ((s : Shop) → IsShop (h.image disk) s → AreUncut (map message_of events)
      → IsBounded h (map message_of events) disk left)
      × (AreUncut (map message_of events) → h.failures left ≡ h.failures disk)
  whole_run left k =
      let none : drop asks.taken asked.events.now ≡ [] =
      drop_all asks.taken asked.events.now (omega (arith, k.shop.1, ap length k.takes.0)) in
      let all : messages_in k.taken ≡ map message_of events =
      sym (ap (λ es. messages_in k.taken ++ map message_of es) none ∙ append-nil (messages_in k.taken))
      ∙ parts k.taken k.takes in (
        λ s is.
            let run : IsToldWhole h listed s (map message_of events) disk left old new =
            subst (λ ms. IsToldWhole h listed s ms disk left old new) all (k.ok s is).0 in (
              told_in run.turns,
              run.told ∙ ap (λ rs. old.items ++ rs) (told_over h run.turns),
              (whole h s (map message_of events) run.turns disk left run.run).0,
            ),
        λ s is. subst (λ ms. HeldBeginnings h s ms disk left) all (k.moments s is),
        λ s is. subst (λ ms. AskNothing s ms → IsQuiet h s ms disk left) all (k.quiet s is),
        λ s is. sparing (Ok left) k s is,
        λ uncut.
            let shop = k.shop.0 in
            let run : IsToldWhole h listed shop.0 (map message_of events) disk left old new =
            subst (λ ms. IsToldWhole h listed shop.0 ms disk left old new) all (k.ok shop.0 shop.1).0 in
            run_unfailed h shop.0 (map message_of events) run.turns disk left uncut run.run,
      )

  -- events that ask nothing new were taken up to one of them
  still : (left : D) (f : LoopFault) → IsRun h of_events listed disk asked asks old new (Err (f, left))
      → (s : Shop) → IsShop (h.image disk) s → AskNothing s (map message_of events)
      → IsQuiet h s (map message_of events) disk left
  still left f k s is = quiet_of_more h s (messages_in k.taken) (map message_of (drop asks.taken asked.events.now))
      (map message_of events) disk left (parts k.taken k.takes) (k.quiet s is)

  refused : (left : D) (f : OpenFault) → IsRun h of_events listed disk asked asks old new (Err (runs.Open f, left))
      → IsEventsEnd h disk left (map message_of events) old.items new.items (ends.Open f)
  refused left f k = record {
    device = λ s is (e : ends.Open f ≡ ends.Device). cc;
    moments = λ s is. held_of_more h s (messages_in k.taken) (map message_of (drop asks.taken asked.events.now))
        (map message_of events) disk left (parts k.taken k.takes) (k.moments s is);
    quiet = still left (runs.Open f) k;
    spared = spared (Err (runs.Open f, left)) k;
    writes = λ s is. sparing (Err (runs.Open f, left)) k s is;
    plays = λ shop never. ⊎_elim (λ (e : runs.Open f ≡ runs.Input). cc) (λ (e : runs.Open f ≡ runs.Output). cc)
        (k.plays shop never);
    «open» = λ x e. (k.«open» x (ap runs.Open (ap opened_with e))).0;
    cause = λ (e : ends.Open f ≡ ends.Device). cc;
    memory = λ (e : ends.Open f ≡ ends.NoMemory). cc;
    silent = λ _. ap (λ (v : Vec Reply Global). v.items) (k.«open» f refl).3;
  }

  stopped : (left : D) → IsRun h of_events listed disk asked asks old new (Err (runs.Device, left))
      → IsEventsEnd h disk left (map message_of events) old.items new.items ends.Device
  stopped left k = record {
    device = λ s is _.
        let x = (k.device s is refl).0 in
        let rest = map message_of (drop asks.taken asked.events.now) in
        let p = (at_device h s (messages_in k.taken) rest (map message_of events) x.turns x.last disk left
        (parts k.taken k.takes) x.run).0 in (
          told_in x.turns ++ x.last ∷ [],
          ⊎_elim
              (λ t. t ∙ ap (λ rs. old.items ++ rs) (told_more (over_instants h x.turns) (x.last, instant_of h left)
              ∙ ap (λ rs. rs ++ x.last ∷ []) (told_over h x.turns)))
              (λ t. absurd (too_many k.taken k.takes t.1))
              x.told,
          p,
          subst (λ ms. AreWithinMost h ms disk left)
              (sym (device_begun h s (messages_in k.taken) rest (map message_of events) x.turns x.last disk left
              (parts k.taken k.takes) x.run)) (k.wrote s is),
        );
    moments = λ s is. held_of_more h s (messages_in k.taken) (map message_of (drop asks.taken asked.events.now))
        (map message_of events) disk left (parts k.taken k.takes) (k.moments s is);
    quiet = still left runs.Device k;
    spared = spared (Err (runs.Device, left)) k;
    writes = λ s is. sparing (Err (runs.Device, left)) k s is;
    plays = λ shop never. ⊎_elim (λ (e : runs.Device ≡ runs.Input). cc) (λ (e : runs.Device ≡ runs.Output). cc)
        (k.plays shop never);
    «open» = λ f (e : ends.Device ≡ ends.Open f). cc;
    cause = λ _. k.cause refl;
    memory = λ (e : ends.Device ≡ ends.NoMemory). cc;
    silent = λ other. absurd (other refl);
  }

  -- whatever fault ended it: neither the input nor the list failed
  pub faulted : (left : D) (f : LoopFault) → IsRun h of_events listed disk asked asks old new (Err (f, left))
      → IsEventsEnd h disk left (map message_of events) old.items new.items (play_fault_of f)
  faulted left (runs.Open f) k = refused left f k
  faulted left runs.Input k = let shop = k.after (inl refl) in absurd (k.input shop.0 shop.1 refl).0
  faulted left runs.Output k = let shop = k.after (inr refl) in
      absurd (too_many k.taken k.takes (k.output shop.0 shop.1 refl).0.full)
  faulted left runs.Device k = stopped left k
