-- What comes of a script whose replies go to a writer that is lent.
use Rattle.std.proofs.Common.{Err, List, Ok, Option, Result, ap, inl, inr, refl, subst, sym, ℕ, ⊎_elim, ◌≡◌}
use Rattle.d64_image.specs.History.{History}
use Rattle.request_cards.specs.declared.reply.Reply.{Reply}
use Rattle.host_session.specs.declared.events.lines.LentReplies.{LentReplies}
use Rattle.host_session.specs.declared.runs.scripts.ScriptFault.{ScriptFault}
use Rattle.host_session.specs.declared.runs.scripts.ScriptFault.TheVariants as faults
use Rattle.host_session.specs.events.Events.{Message}
use Rattle.host_session.specs.runs.Lent.{written_to}
use Rattle.host_session.specs.runs.Outputs.{written}
use Rattle.host_session.specs.runs.ScriptRuns.{AreToldSo, IsPlayedOut, IsPlayedToDevice, IsPlayedToOutput, IsScriptRun}
use Rattle.host_session.specs.shop.Shop.{Shop}

module _ {D W : Type 0} (h : History D) (contents : W → Option (List ℕ)) (disk : D) (old new : LentReplies W)
    (script : List ℕ) where
  abbrev Ran : Result D (ScriptFault × D) → Type 0
  Ran r = IsScriptRun h (written_to contents) disk script old new r

  abbrev Wrote : Result D (ScriptFault × D) → Type 0
  Wrote r = IsScriptRun h (written contents) disk script old.out.now new.out.now r

  -- the writer is still the one that was lent
  still_lent : (r : Result D (ScriptFault × D)) → Ran r → new.out.ghost_name ≡ old.out.ghost_name
  still_lent (Ok left) x = let s = x.shop in (x.ok s.0 s.1).run.told.0
  still_lent (Err (faults.Open f, left)) x = ap (λ (l : LentReplies W). l.out.ghost_name) (x.«open» f refl).1
  still_lent (Err (faults.BadLine n, left)) x =
      ap (λ (l : LentReplies W). l.out.ghost_name) (x.bad_line n (x.good n refl)).1
  still_lent (Err (faults.Output, left)) x = let s = x.after refl in (x.output s.0 s.1 refl).run.told.0
  still_lent (Err (faults.Device, left)) x =
      let s = (x.cause refl).0 in ⊎_elim (λ t. t.0) (λ t. t.0.0) (x.device s.0 s.1 refl).run.told

  module _ (s : Shop) (ms : List Message) (left : D) where
    played : IsPlayedOut h (written_to contents) s ms disk left old new
        → IsPlayedOut h (written contents) s ms disk left old.out.now new.out.now
    played x = record {
      run = record { turns = x.run.turns; run = x.run.run; told = x.run.told.1 };
      played = x.played;
      within = x.within;
    }

    played_to_output : IsPlayedToOutput h (written_to contents) s ms disk left old new
        → IsPlayedToOutput h (written contents) s ms disk left old.out.now new.out.now
    played_to_output x = record {
      begun = x.begun;
      rest = x.rest;
      parts = x.parts;
      run = record {
        turns = x.run.turns;
        last = x.run.last;
        run = x.run.run;
        told = x.run.told.1;
        full = x.run.full;
      };
      stopped = x.stopped;
      within = x.within;
    }

    played_to_device : IsPlayedToDevice h (written_to contents) s ms disk left old new
        → IsPlayedToDevice h (written contents) s ms disk left old.out.now new.out.now
    played_to_device x = record {
      begun = x.begun;
      rest = x.rest;
      parts = x.parts;
      run = record {
        turns = x.run.turns;
        last = x.run.last;
        run = x.run.run;
        told = ⊎_elim (λ t. inl t.1) (λ t. inr (t.0.1, t.1)) x.run.told;
      };
      stopped = x.stopped;
      within = x.within;
    }

  told_so : (told : List Reply) → AreToldSo (written_to contents) old new told
      → AreToldSo (written contents) old.out.now new.out.now told
  told_so told x = record { turns = x.turns; is = x.is.1; replies = x.replies }

  wrote : (r : Result D (ScriptFault × D)) → Ran r → Wrote r
  wrote (Ok left) x = record {
    bad_line = λ n e. ((x.bad_line n e).0, ap (λ (l : LentReplies W). l.out.now) (x.bad_line n e).1);
    good = tt;
    shop = x.shop;
    ok = λ s shop. played s _ left (x.ok s shop);
    without_resets = λ s shop none. (told_so _ (x.without_resets s shop none).0, (x.without_resets s shop none).1);
    output = λ s shop. tt;
    device = λ s shop. tt;
    moments = x.moments;
    quiet = x.quiet;
    spared = x.spared;
    writes = x.writes;
    plays = λ shop never. tt;
    «open» = tt;
    cause = tt;
    after = tt;
  }
  wrote (Err e) x = record {
    bad_line = λ n is. ((x.bad_line n is).0, ap (λ (l : LentReplies W). l.out.now) (x.bad_line n is).1);
    good = x.good;
    shop = tt;
    ok = λ s shop. tt;
    without_resets = λ s shop none. tt;
    output = λ s shop is. played_to_output s _ e.1 (x.output s shop is);
    device = λ s shop is. played_to_device s _ e.1 (x.device s shop is);
    moments = x.moments;
    quiet = x.quiet;
    spared = x.spared;
    writes = x.writes;
    plays = x.plays;
    «open» = λ fault is. ((x.«open» fault is).0, ap (λ (l : LentReplies W). l.out.now) (x.«open» fault is).1);
    cause = x.cause;
    after = x.after;
  }

  -- and so for what the writer ends as
  pub written_script : (r : Result D (ScriptFault × D)) → Ran r → (first last : W) → old.out.now ≡ first
      → (old.out.ghost_name ≡ new.out.ghost_name → last ≡ new.out.now)
      → IsScriptRun h (written contents) disk script first last r
  written_script r x first last was is =
      subst (λ w. IsScriptRun h (written contents) disk script w last r) was
      (subst (λ w. IsScriptRun h (written contents) disk script old.out.now w r) (sym (is (sym (still_lent r x))))
      (wrote r x))
