-- A script that was run over a mirror, as a run over its file.
use Rattle.std.proofs.Common.{◌≡◌, ◌<◌, ◌∙◌, ℕ, Bool, List, [], ◌∷◌, ◌++◌, Ok, Err, Result, ap}
use Rattle.std.proofs.Common.{arith, inl, inr, subst, sym, ⊎_elim}
use Rattle.std.proofs.lemmas.Bool.{cases_lt}
use Rattle.d64_image.specs.declared.kept_mirror.KeptMirror.{KeptMirror}
use Rattle.d64_image.specs.declared.sector_file.SectorFile.{Ghosts}
use Rattle.d64_image.specs.FileDisks.{FileDisk, fails_since, in_run}
use Rattle.d64_image.specs.History.{Failed, History}
use Rattle.d64_image.specs.Images.{Image}
use Rattle.d64_image.specs.KeptMirrors.{IsMirrored, is_broken, mirror}
use Rattle.d64_image.proofs.FileRuns.{failed_by_file, file_disk, never_failed, since_grows}
use Rattle.host_session.proofs.lemmas.Held.{held_by_file}
use Rattle.host_session.proofs.lemmas.Held.{weaker}
use Rattle.host_session.specs.declared.faults.OpenFault.{OpenFault}
use Rattle.host_session.specs.declared.faults.OpenFault.TheVariants as opening
use Rattle.host_session.specs.declared.runs.scripts.ScriptFault.{ScriptFault}
use Rattle.host_session.specs.events.Events.{Message, messages_of}
use Rattle.host_session.specs.events.Instants.{instant_of}
use Rattle.host_session.specs.events.Telling.{Output}
use Rattle.host_session.specs.events.Within.{AreFewWithin}
use Rattle.host_session.specs.runs.Chains.{HasRun, told_in}
use Rattle.host_session.specs.runs.Loops.{IsToldWhole}
use Rattle.host_session.specs.runs.Runs.{HeldBeginnings, IsBlamed, IsPlayed, IsRefused, IsSomeBeginning}
use Rattle.host_session.specs.runs.ScriptRuns.{IsPlayedOut, IsPlayedToDevice, IsPlayedToOutput, IsScriptRun}
use Rattle.host_session.specs.session.Opening.{IsAShop, Refuses}
use Rattle.host_session.specs.shop.Shop.{Shop}
use Rattle.request_cards.specs.Ledgers.{State}
use Rattle.request_cards.specs.declared.reply.Reply.{Reply}
use Rattle.line_text.specs.scripts.Lines.{lines}
use Rattle.shop_commands.proofs.FileChains.{blamed_file, bounded_of_file, changes_of_file, failing_of_file}
use Rattle.shop_commands.proofs.FileChains.{quiet_of_file, run_of_file, same_instants, within_failing}
use Rattle.shop_commands.proofs.FileChains.{spared_of_file}
use Rattle.shop_commands.proofs.FileChains.{within_run}
use Rattle.shop_commands.proofs.FileTurns.{over_files, over_files-more, same_told}

-- how a run over a mirror ended, as one over its file
abbrev pub end_of_file : {E F : Type 0} {G : Ghosts F} → Result (KeptMirror F G) (E × KeptMirror F G)
    → Result (FileDisk G.keeps) (E × FileDisk G.keeps)
end_of_file (Ok m) = Ok (file_disk m)
end_of_file (Err e) = Err (e.0, file_disk e.1)

-- why it isn't opened, but for the device
pub refuses_so : (P Q : Type 0) (img : Image) (fault : OpenFault) → (P → Q) → Refuses P img fault → Refuses Q img fault
refuses_so P Q img (opening.Layout f) so is = is
refuses_so P Q img opening.NoStock so is = is
refuses_so P Q img opening.NoRequests so is = is
refuses_so P Q img (opening.BadCard n) so is = is
refuses_so P Q img (opening.BadRequestCard n) so is = is
refuses_so P Q img opening.TwoIntents so is = is
refuses_so P Q img opening.Device so is = so is

module _ {F T : Type 0} {G : Ghosts F} (o : Output T) (start : KeptMirror F G) (whole : is_broken start
    → ⊥) (untaken : start.taken.n ≡ 0) (old new : T) where
  abbrev file_run : History (FileDisk G.keeps)
  file_run = in_run G.keeps start.file

  played_of_file : (s : Shop) (ms : List Message) (b : KeptMirror F G) (told same : List Reply) (Whole : List Message
      → List Bool → Type 0) (Ends : State → Type 0)
      → IsMirrored start b → told ≡ same → IsPlayed mirror s ms start b told Whole Ends
      → IsPlayed file_run s ms (file_disk start) (file_disk b) same Whole Ends
  played_of_file s ms b told same Whole Ends x e p = record {
    fails = p.fails;
    counted = p.counted;
    is = p.is;
    whole = p.whole;
    blame = blamed_file start whole start b x x p.fails p.blame;
    told_is = sym e ∙ p.told_is;
    sums = p.sums;
    ends = p.ends;
  }

  pub moments_of_file : (s : Shop) (ms : List Message) (b : KeptMirror F G) → HeldBeginnings mirror s ms start b
      → HeldBeginnings file_run s ms (file_disk start) (file_disk b)
  moments_of_file s ms b held = weaker file_run (file_disk start) (file_disk b)
      (IsSomeBeginning s ms (IsBlamed mirror start b)) _
      (λ c x. record {
        begun = x.begun;
        rest = x.rest;
        parts = x.parts;
        fails = x.fails;
        counted = x.counted;
        is = x.is;
        whole = x.whole;
        blame = blamed_file start whole start b held.reached held.reached x.fails x.blame;
        shop = x.shop;
      })
      (held_by_file start.file start b _ held)

  told_of_file : (s : Shop) (ms : List Message) (b : KeptMirror F G) → IsToldWhole mirror o s ms start b old new
      → IsToldWhole file_run o s ms (file_disk start) (file_disk b) old new
  told_of_file s ms b x = record {
    turns = over_files x.turns;
    run = run_of_file start whole untaken s ms x.turns b x.run;
    told = subst (λ xs. o.told old new xs) (same_instants start whole x.turns) x.told;
  }

  out_of_file : (s : Shop) (ms : List Message) (b : KeptMirror F G) → IsMirrored start b
      → IsPlayedOut mirror o s ms start b old new
      → IsPlayedOut file_run o s ms (file_disk start) (file_disk b) old new
  unfolding told_of_file
  out_of_file s ms b x p = record {
    run = told_of_file s ms b p.run;
    played = played_of_file s ms b _ _ _ _ x (same_told p.run.turns) p.played;
    within = λ few uncut. within_run start whole untaken s ms p.run.turns b p.run.run few uncut (p.within few uncut);
  }

  output_of_file : (s : Shop) (ms : List Message) (b : KeptMirror F G) → IsMirrored start b
      → IsPlayedToOutput mirror o s ms start b old new
      → IsPlayedToOutput file_run o s ms (file_disk start) (file_disk b) old new
  output_of_file s ms b x p =
      let last : Reply × FileDisk G.keeps = (p.run.last.0, file_disk p.run.last.1) in
      let more : over_files (p.run.turns ++ p.run.last ∷ []) ≡ over_files p.run.turns ++ last ∷ [] =
      sym (over_files-more p.run.turns (p.run.last ∷ [])) in
      let all : List (Reply × KeptMirror F G) = p.run.turns ++ p.run.last ∷ [] in
      let so = subst (λ turns. (r : HasRun file_run s p.begun turns (file_disk start) (file_disk b))
      × AreFewWithin file_run p.begun turns r.first) more (
        run_of_file start whole untaken s p.begun all b p.run.run,
        λ few uncut. within_run start whole untaken s p.begun all b p.run.run few uncut (p.within few uncut),
      ) in
      record {
        begun = p.begun;
        rest = p.rest;
        parts = p.parts;
        run = record {
          turns = over_files p.run.turns;
          last = last;
          run = so.0;
          told = subst (λ xs. o.broken_off old new xs (p.run.last.0, instant_of mirror p.run.last.1))
              (same_instants start whole p.run.turns) p.run.told;
          full = p.run.full;
        };
        stopped = record {
          begun = p.stopped.begun;
          rest = p.stopped.rest;
          parts = p.stopped.parts;
          some = p.stopped.some;
          played = played_of_file s p.stopped.begun b _ _ _ _ x (same_told (p.run.turns ++ p.run.last ∷ [])
              ∙ ap told_in more) p.stopped.played;
        };
        within = so.1;
      }

  device_of_file : (s : Shop) (ms : List Message) (b : KeptMirror F G) → IsMirrored start b
      → IsPlayedToDevice mirror o s ms start b old new
      → IsPlayedToDevice file_run o s ms (file_disk start) (file_disk b) old new
  device_of_file s ms b x p = record {
    begun = p.begun;
    rest = p.rest;
    parts = p.parts;
    run = record {
      turns = over_files p.run.turns;
      last = p.run.last;
      run = failing_of_file start whole untaken s p.begun p.run.turns p.run.last b p.run.run;
      told = ⊎_elim
          (λ t. inl (subst (λ xs. o.told old new (xs ++ (p.run.last, instant_of mirror b) ∷ []))
          (same_instants start whole p.run.turns) t))
          (λ t. inr (
            subst (λ xs. o.broken_off old new xs (p.run.last, instant_of mirror b))
                (same_instants start whole p.run.turns) t.0,
            t.1,
          ))
          p.run.told;
    };
    stopped = record {
      begun = p.stopped.begun;
      rest = p.stopped.rest;
      parts = p.stopped.parts;
      played = played_of_file s p.stopped.begun b _ _ _ _ x (ap (λ xs. xs ++ p.run.last ∷ []) (same_told p.run.turns))
          p.stopped.played;
    };
    within = λ few uncut. within_failing start whole untaken s p.begun p.run.turns p.run.last b p.run.run few uncut
        (p.within few uncut);
  }

  -- a disk is a shop's or not; either way an opening that is refused is a run
  pub refused_reached : (b : KeptMirror F G) (fault : OpenFault) → IsRefused mirror start fault b → (IsMirrored start b → ⊥)
      → ⊥
  refused_reached b fault x never =
      let no_shop : IsAShop (mirror.image start) → ⊥ = λ s. never (x.same s.0 s.1).held.reached in
      never (x.unfit no_shop).held.reached

  refused_failed : (b : KeptMirror F G) (fault : OpenFault) → IsRefused mirror start fault b → Failed mirror start b
      → Failed file_run (file_disk start) (file_disk b)
  refused_failed b fault x failed = record {
    later = ⊎_elim
        (λ (less : fails_since G.keeps start.file b.file < fails_since G.keeps start.file start.file).
        absurd (refused_reached b fault x
        (λ y. omega (arith, less, since_grows G.keeps start.file start.file b.file y.failures))))
        (λ le. le)
        (cases_lt (fails_since G.keeps start.file b.file) (fails_since G.keeps start.file start.file));
    rose = λ few. absurd
        (refused_reached b fault x (λ y. omega (arith, few, (failed_by_file start whole start b y y failed).rose few)));
  }

  pub refused_of_file : (b : KeptMirror F G) (fault : OpenFault) → IsRefused mirror start fault b
      → IsRefused file_run (file_disk start) fault (file_disk b)
  refused_of_file b fault x = record {
    refused = refuses_so _ _ (mirror.image start) fault (refused_failed b fault x) x.refused;
    same = λ s is. changes_of_file start whole untaken b 952 _ (omega arith) (x.same s is);
    kept = λ other. changes_of_file start whole untaken b 0 _ (omega arith) (x.kept other);
    unfit = λ no_shop. changes_of_file start whole untaken b 0 _ (omega arith) (x.unfit no_shop);
  }

  -- the run of a script over a mirror is one over its file
  pub script_of_file : (script : List ℕ) (r : Result (KeptMirror F G) (ScriptFault × KeptMirror F G))
      → IsScriptRun mirror o start script old new r
      → IsScriptRun file_run o (file_disk start) script old new (end_of_file r)
  script_of_file script (Ok b) x = record {
    bad_line = λ n is. (ap end_of_file (x.bad_line n is).0, (x.bad_line n is).1);
    good = tt;
    shop = x.shop;
    ok = λ s is. out_of_file s (messages_of (lines script)) b (x.moments s is).reached (x.ok s is);
    without_resets = x.without_resets;
    output = λ _ _. tt;
    device = λ _ _. tt;
    moments = λ s is. moments_of_file s (messages_of (lines script)) b (x.moments s is);
    quiet = λ s is asks. quiet_of_file start whole untaken s (messages_of (lines script)) b (x.quiet s is asks);
    spared = λ s is asks. spared_of_file start whole untaken s b (x.moments s is).reached (x.spared s is asks);
    writes = λ s is few uncut. bounded_of_file start whole untaken (messages_of (lines script)) b
        (x.moments s is).reached few (x.writes s is few uncut);
    plays = λ _ _. tt;
    «open» = tt;
    cause = tt;
    after = tt;
  }
  script_of_file script (Err e) x = record {
    bad_line = λ n is. (ap end_of_file (x.bad_line n is).0, (x.bad_line n is).1);
    good = x.good;
    shop = tt;
    ok = λ _ _. tt;
    without_resets = λ _ _ _. tt;
    output = λ s is told. output_of_file s (messages_of (lines script)) e.1 (x.moments s is).reached
        (x.output s is told);
    device = λ s is told. device_of_file s (messages_of (lines script)) e.1 (x.moments s is).reached
        (x.device s is told);
    moments = λ s is. moments_of_file s (messages_of (lines script)) e.1 (x.moments s is);
    quiet = λ s is asks. quiet_of_file start whole untaken s (messages_of (lines script)) e.1 (x.quiet s is asks);
    spared = λ s is asks. spared_of_file start whole untaken s e.1 (x.moments s is).reached (x.spared s is asks);
    writes = λ s is few uncut. bounded_of_file start whole untaken (messages_of (lines script)) e.1
        (x.moments s is).reached few (x.writes s is few uncut);
    plays = λ shop never. x.plays shop (never_failed start whole e.1 (x.moments shop.0 shop.1).reached never);
    «open» = λ f is. (refused_of_file e.1 f (x.«open» f is).0, (x.«open» f is).1);
    cause = λ is.
        let c = x.cause is in
        let y = (x.moments c.0.0 c.0.1).reached in
        (c.0, failed_by_file start whole start e.1 y y c.1);
    after = x.after;
  }
