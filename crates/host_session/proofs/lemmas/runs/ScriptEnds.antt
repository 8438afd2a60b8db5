-- What a run over the lines of a script comes to.
use Rattle.std.proofs.Common.{◌≡◌, ◌≢◌, ◌++◌, ◌∙◌, ⊎_elim, ℕ, List, [], ◌∷◌, None, Some, Ok, Err, refl, sym, subst, ap}
use Rattle.std.proofs.Common.{Result, arith, inl, inr, length, append-nil}
use Rattle.std.proofs.lemmas.Option.{none-some}
use Rattle.d64_image.specs.History.{History}
use Rattle.line_text.specs.scripts.Lines.{lines}
use Rattle.line_text.specs.scripts.Resets.{first_bad}
use Rattle.host_session.proofs.lemmas.runs.Chained.{at_device, at_output, told_over, whole}
use Rattle.host_session.proofs.lemmas.runs.PlainRuns.{plain_played}
use Rattle.host_session.proofs.lemmas.runs.QuietRuns.{quiet_of_more}
use Rattle.host_session.proofs.lemmas.runs.QuietWrites.{spared_of_more}
use Rattle.host_session.proofs.lemmas.runs.Runs.{held_of_more}
use Rattle.host_session.proofs.lemmas.runs.Sparing.{bound_of_more}
use Rattle.host_session.specs.events.Asking.{messages_in, of_script}
use Rattle.host_session.specs.runs.Chains.{over_instants, told_in}
use Rattle.host_session.specs.events.Events.{Message, messages_of}
use Rattle.host_session.specs.events.Instants.{Instant}
use Rattle.host_session.specs.runs.Loops.{IsRun, IsToldWhole}
use Rattle.host_session.specs.session.Opening.{disk_of}
use Rattle.host_session.specs.events.Quiet.{AreUncut, AskNothing, IsQuiet}
use Rattle.host_session.specs.runs.Runs.{HeldBeginnings}
use Rattle.host_session.specs.runs.ScriptRuns.{IsScriptRun}
use Rattle.host_session.specs.shop.Shop.{IsShop, Shop}
use Rattle.host_session.specs.events.Telling.{Output}
use Rattle.host_session.specs.events.Within.{AreWithin, IsBounded, IsSpared}
use Rattle.host_session.specs.declared.events.sources.ScriptEvents.{ScriptEvents}
use Rattle.host_session.specs.declared.faults.OpenFault.{OpenFault}
use Rattle.host_session.specs.declared.faults.OpenFault.TheVariants as openings
use Rattle.host_session.specs.runs.Faults.{script_fault_of}
use Rattle.host_session.specs.declared.runs.event_loop.LoopFault.{LoopFault}
use Rattle.host_session.specs.declared.runs.event_loop.LoopFault.TheVariants as runs
use Rattle.host_session.specs.declared.runs.scripts.ScriptFault.{ScriptFault}
use Rattle.host_session.specs.declared.runs.scripts.ScriptFault.TheVariants as ends

-- the fault of an opening
abbrev opened_with : ScriptFault → OpenFault
opened_with (ends.Open f) = f
opened_with _ = openings.Device

module _ {D T : Type 0} (h : History D) (o : Output T) (disk : D) (script : List ℕ) (asked asks : ScriptEvents)
    (old new : T)
    (is_all : asked.left.now ≡ script) (none : first_bad (lines script) ≡ None) where
  -- the messages that were taken, and those of the lines that are left
  parts : (taken : List (Message × Instant)) → of_script.gives asked asks taken
      → messages_in taken ++ messages_of (lines asks.left.now) ≡ messages_of (lines script)
  parts taken takes = sym (takes (ap (λ xs. first_bad (lines xs)) is_all ∙ none)).1
      ∙ ap (λ xs. messages_of (lines xs)) is_all

  no_line : (n : ℕ) → first_bad (lines script) ≡ Some n → ⊥
  no_line n e = none-some n (sym none ∙ e)

  -- what the lines that were taken wrote, all of them may
  sparing : (r : Result D (LoopFault × D)) → IsRun h of_script o disk asked asks old new r
      → (s : Shop) → IsShop (h.image disk) s → AreUncut (messages_of (lines script))
      → IsBounded h (messages_of (lines script)) disk (disk_of (λ d. d) r)
  sparing r k s is = bound_of_more h (messages_in k.taken) (messages_of (lines asks.left.now))
      (messages_of (lines script)) disk (disk_of (λ d. d) r) (parts k.taken k.takes) (k.writes s is)

  -- and where they ask nothing new
  spared : (r : Result D (LoopFault × D)) → IsRun h of_script o disk asked asks old new r
      → (s : Shop) → IsShop (h.image disk) s → AskNothing s (messages_of (lines script))
      → IsSpared h s disk (disk_of (λ d. d) r)
  spared r k s is = spared_of_more h s (messages_in k.taken) (messages_of (lines asks.left.now))
      (messages_of (lines script)) disk (disk_of (λ d. d) r) (parts k.taken k.takes) (k.spared s is)

  pub played_out : (left : D) → IsRun h of_script o disk asked asks old new (Ok left)
      → IsScriptRun h o disk script old new (Ok left)
  played_out left k =
      let all : messages_in k.taken ≡ messages_of (lines script) =
      sym (ap (λ ls. messages_in k.taken ++ messages_of ls) k.shop.1 ∙ append-nil (messages_in k.taken))
      ∙ parts k.taken k.takes in
      record {
        bad_line = λ n e. absurd (no_line n e);
        good = tt;
        shop = k.shop.0;
        ok = λ s is.
            let x = subst
            (λ ms. (run : IsToldWhole h o s ms disk left old new) × AreWithin h ms run.turns run.run.first) all
            ((k.ok s is).0, (k.ok s is).2) in
            record {
              run = x.0;
              played = (whole h s (messages_of (lines script)) x.0.turns disk left x.0.run).0;
              within = λ _ _. x.1;
            };
        without_resets = λ s is no.
            let run : IsToldWhole h o s (messages_of (lines script)) disk left old new =
            subst (λ ms. IsToldWhole h o s ms disk left old new) all (k.ok s is).0 in
            let q = plain_played h s (lines script) disk left (told_in run.turns) no
            (whole h s (messages_of (lines script)) run.turns disk left run.run).0 in
            (record { turns = over_instants h run.turns; is = run.told; replies = told_over h run.turns ∙ q.0 }, q.1);
        output = λ s is. tt;
        device = λ s is. tt;
        moments = λ s is. subst (λ ms. HeldBeginnings h s ms disk left) all (k.moments s is);
        quiet = λ s is. subst (λ ms. AskNothing s ms → IsQuiet h s ms disk left) all (k.quiet s is);
        spared = spared (Ok left) k;
        writes = λ s is _. sparing (Ok left) k s is;
        plays = λ shop never. tt;
        «open» = tt;
        cause = tt;
        after = tt;
      }

  -- lines that ask nothing new were taken up to one of them
  still : (left : D) (f : LoopFault) → IsRun h of_script o disk asked asks old new (Err (f, left))
      → (s : Shop) → IsShop (h.image disk) s → AskNothing s (messages_of (lines script))
      → IsQuiet h s (messages_of (lines script)) disk left
  still left f k s is = quiet_of_more h s (messages_in k.taken) (messages_of (lines asks.left.now))
      (messages_of (lines script)) disk left (parts k.taken k.takes) (k.quiet s is)

  pub refused : (left : D) (f : OpenFault) → IsRun h of_script o disk asked asks old new (Err (runs.Open f, left))
      → IsScriptRun h o disk script old new (Err (ends.Open f, left))
  refused left f k = record {
    bad_line = λ n e. absurd (no_line n e);
    good = λ n (e : ends.Open f ≡ ends.BadLine n). cc;
    shop = tt;
    ok = λ s is. tt;
    without_resets = λ s is no. tt;
    output = λ s is (e : ends.Open f ≡ ends.Output). cc;
    device = λ s is (e : ends.Open f ≡ ends.Device). cc;
    moments = λ s is. held_of_more h s (messages_in k.taken) (messages_of (lines asks.left.now))
        (messages_of (lines script)) disk left (parts k.taken k.takes) (k.moments s is);
    quiet = still left (runs.Open f) k;
    spared = spared (Err (runs.Open f, left)) k;
    writes = λ s is _. sparing (Err (runs.Open f, left)) k s is;
    plays = λ shop never. ⊎_elim (λ (e : runs.Open f ≡ runs.Input). cc) (λ (e : runs.Open f ≡ runs.Output). cc)
        (k.plays shop never);
    «open» = λ x e. let y = k.«open» x (ap runs.Open (ap opened_with e)) in (y.0, y.3);
    cause = λ (e : ends.Open f ≡ ends.Device). cc;
    after = λ (e : ends.Open f ≡ ends.Output). cc;
  }

  pub unprinted : (left : D) → IsRun h of_script o disk asked asks old new (Err (runs.Output, left))
      → IsScriptRun h o disk script old new (Err (ends.Output, left))
  unprinted left k = record {
    bad_line = λ n e. absurd (no_line n e);
    good = λ n (e : ends.Output ≡ ends.BadLine n). cc;
    shop = tt;
    ok = λ s is. tt;
    without_resets = λ s is no. tt;
    output = λ s is _.
        let x = (k.output s is refl).0 in
        let some : messages_in k.taken ≢ [] = λ e. omega (arith, x.full, ap length e) in
        record {
          begun = messages_in k.taken;
          rest = messages_of (lines asks.left.now);
          parts = parts k.taken k.takes;
          run = x;
          stopped = (at_output h s (messages_in k.taken) (messages_of (lines asks.left.now))
              (messages_of (lines script)) (x.turns ++ x.last ∷ []) disk left
              (parts k.taken k.takes) some x.run).0;
          within = λ _ _. (k.output s is refl).2;
        };
    device = λ s is (e : ends.Output ≡ ends.Device). cc;
    moments = λ s is. held_of_more h s (messages_in k.taken) (messages_of (lines asks.left.now))
        (messages_of (lines script)) disk left (parts k.taken k.takes) (k.moments s is);
    quiet = still left runs.Output k;
    spared = spared (Err (runs.Output, left)) k;
    writes = λ s is _. sparing (Err (runs.Output, left)) k s is;
    plays = λ shop never. inr refl;
    «open» = λ f (e : ends.Output ≡ ends.Open f). cc;
    cause = λ (e : ends.Output ≡ ends.Device). cc;
    after = λ _. k.after (inr refl);
  }

  pub stopped : (left : D) → IsRun h of_script o disk asked asks old new (Err (runs.Device, left))
      → IsScriptRun h o disk script old new (Err (ends.Device, left))
  stopped left k = record {
    bad_line = λ n e. absurd (no_line n e);
    good = λ n (e : ends.Device ≡ ends.BadLine n). cc;
    shop = tt;
    ok = λ s is. tt;
    without_resets = λ s is no. tt;
    output = λ s is (e : ends.Device ≡ ends.Output). cc;
    device = λ s is _.
        let x = (k.device s is refl).0 in
        record {
          begun = messages_in k.taken;
          rest = messages_of (lines asks.left.now);
          parts = parts k.taken k.takes;
          run = x;
          stopped = (at_device h s (messages_in k.taken) (messages_of (lines asks.left.now))
              (messages_of (lines script)) x.turns x.last disk left
              (parts k.taken k.takes) x.run).0;
          within = λ _ _. (k.device s is refl).2;
        };
    moments = λ s is. held_of_more h s (messages_in k.taken) (messages_of (lines asks.left.now))
        (messages_of (lines script)) disk left (parts k.taken k.takes) (k.moments s is);
    quiet = still left runs.Device k;
    spared = spared (Err (runs.Device, left)) k;
    writes = λ s is _. sparing (Err (runs.Device, left)) k s is;
    plays = λ shop never. ⊎_elim (λ (e : runs.Device ≡ runs.Input). cc) (λ (e : runs.Device ≡ runs.Output). cc)
        (k.plays shop never);
    «open» = λ f (e : ends.Device ≡ ends.Open f). cc;
    cause = λ _. k.cause refl;
    after = λ (e : ends.Device ≡ ends.Output). cc;
  }

  -- whatever fault ended it: the input didn't fail
  pub faulted : (left : D) (f : LoopFault) → IsRun h of_script o disk asked asks old new (Err (f, left))
      → IsScriptRun h o disk script old new (Err (script_fault_of f, left))
  faulted left (runs.Open f) k = refused left f k
  faulted left runs.Input k = let shop = k.after (inl refl) in absurd (k.input shop.0 shop.1 refl).0
  faulted left runs.Output k = unprinted left k
  faulted left runs.Device k = stopped left k
