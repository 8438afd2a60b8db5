-- What comes of a script that is played: once what was told is handed on, and over a file.
use Rattle.std.proofs.Common.{◌≡◌, ◌≢◌, ◌∙◌, ℕ, List, Option, None, Some, Result, Ok, Err, inl, inr}
use Rattle.std.proofs.Common.{refl, ap, ⊎_elim}
use Rattle.d64_image.specs.History.{History}
use Rattle.host_session.specs.declared.runs.scripts.ScriptFault.{ScriptFault}
use Rattle.host_session.specs.declared.runs.scripts.ScriptFault.TheVariants as script_faults
use Rattle.host_session.specs.events.Events.{Message, messages_of}
use Rattle.host_session.specs.events.Telling.{Output, TellsNone}
use Rattle.host_session.specs.runs.ScriptRuns.{AreToldSo, IsPlayedOut, IsPlayedToDevice, IsPlayedToOutput, IsScriptRun}
use Rattle.host_session.specs.shop.Shop.{Shop}
use Rattle.request_cards.specs.declared.reply.Reply.{Reply}
use Rattle.line_text.specs.scripts.Lines.{lines}

-- an option that is never some is none
pub none-of : (o : Option ℕ) → ((n : ℕ) → o ≡ Some n → ⊥) → o ≡ None
none-of None never = refl
none-of (Some n) never = absurd (never n refl)

-- the fault of a run, and its disk
abbrev pub fault_in : {D : Type 0} → Result D (ScriptFault × D) → ScriptFault
fault_in (Ok left) = script_faults.Output
fault_in (Err e) = e.0

abbrev pub left_in : {D : Type 0} → Result D (ScriptFault × D) → D
left_in (Ok left) = left
left_in (Err e) = e.1

module _ {D T : Type 0} (h : History D) (o : Output T) (disk : D) (script : List ℕ) (old mid new : T)
    (kept : TellsNone o mid new) where
  out_on : (s : Shop) (ms : List Message) (left : D) → IsPlayedOut h o s ms disk left old mid
      → IsPlayedOut h o s ms disk left old new
  out_on s ms left p = record {
    run = record { turns = p.run.turns; run = p.run.run; told = kept.0 old _ p.run.told };
    played = p.played;
    within = p.within;
  }

  so_on : (told : List Reply) → AreToldSo o old mid told → AreToldSo o old new told
  so_on told x = record { turns = x.turns; is = kept.0 old x.turns x.is; replies = x.replies }

  output_on : (s : Shop) (ms : List Message) (left : D) → IsPlayedToOutput h o s ms disk left old mid
      → IsPlayedToOutput h o s ms disk left old new
  output_on s ms left p = record {
    begun = p.begun;
    rest = p.rest;
    parts = p.parts;
    run = record {
      turns = p.run.turns;
      last = p.run.last;
      run = p.run.run;
      told = kept.1 old _ _ p.run.told;
      full =
          p.run.full;
    };
    stopped = p.stopped;
    within = p.within;
  }

  device_on : (s : Shop) (ms : List Message) (left : D) → IsPlayedToDevice h o s ms disk left old mid
      → IsPlayedToDevice h o s ms disk left old new
  device_on s ms left p = record {
    begun = p.begun;
    rest = p.rest;
    parts = p.parts;
    run = record {
      turns = p.run.turns;
      last = p.run.last;
      run = p.run.run;
      told = ⊎_elim (λ t. inl (kept.0 old _ t)) (λ t. inr (kept.1 old _ _ t.0, t.1)) p.run.told;
    };
    stopped = p.stopped;
    within = p.within;
  }

  -- a run to its end, once what it told is handed on
  pub handed_on : (left : D) → IsScriptRun h o disk script old mid (Ok left)
      → IsScriptRun h o disk script old new (Ok left)
  handed_on left x = record {
    bad_line = λ n is. let never = (x.bad_line n is).0 in cc;
    good = tt;
    shop = x.shop;
    ok = λ s is. out_on s (messages_of (lines script)) left (x.ok s is);
    without_resets = λ s is plain. (so_on _ (x.without_resets s is plain).0, (x.without_resets s is plain).1);
    output = λ _ _. tt;
    device = λ _ _. tt;
    moments = x.moments;
    quiet = x.quiet;
    spared = x.spared;
    writes = x.writes;
    plays = λ _ _. tt;
    «open» = tt;
    cause = tt;
    after = tt;
  }

  -- and one that a fault ended, behind which nothing is handed on where nothing was told
  pub fault_handed_on : (e : ScriptFault × D) → (e.0 ≢ script_faults.Output → e.0 ≢ script_faults.Device → new ≡ mid)
      → IsScriptRun h o disk script old mid (Err e) → IsScriptRun h o disk script old new (Err e)
  fault_handed_on e silent x = record {
    bad_line = λ n is.
        let y = x.bad_line n is in
        let told : e.0 ≡ script_faults.BadLine n = ap fault_in y.0 in
        (y.0, silent (λ f. cc) (λ f. cc) ∙ y.1);
    good = x.good;
    shop = tt;
    ok = λ _ _. tt;
    without_resets = λ _ _ _. tt;
    output = λ s is told. output_on s (messages_of (lines script)) e.1 (x.output s is told);
    device = λ s is told. device_on s (messages_of (lines script)) e.1 (x.device s is told);
    moments = x.moments;
    quiet = x.quiet;
    spared = x.spared;
    writes = x.writes;
    plays = x.plays;
    «open» = λ f is. ((x.«open» f is).0, silent (λ g. cc) (λ g. cc) ∙ (x.«open» f is).1);
    cause = x.cause;
    after = x.after;
  }
