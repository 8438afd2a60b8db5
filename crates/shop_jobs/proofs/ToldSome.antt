-- What an output was passed of a play over a file, however it ended: replies, the last of them perhaps in part.
use Rattle.std.proofs.Common.{◌++◌, ◌∷◌, [], ℕ, Bool, List, Result, Ok, Err, inl, inr, refl, ⊎_elim}
use Rattle.command_faults.specs.declared.faults.CommandFault.{CommandFault}
use Rattle.command_faults.specs.declared.faults.CommandFault.TheVariants as faults
use Rattle.d64_image.specs.FileDisks.{FileDisk, in_run}
use Rattle.d64_image.specs.History.{History}
use Rattle.d64_image.specs.Keeps.{Keeps}
use Rattle.host_session.specs.declared.runs.scripts.ScriptFault.{ScriptFault}
use Rattle.host_session.specs.declared.runs.scripts.ScriptFault.TheVariants as script
use Rattle.host_session.specs.events.Instants.{Instant, instant_of}
use Rattle.host_session.specs.events.Telling.{Output}
use Rattle.host_session.specs.runs.Chains.{over_instants}
use Rattle.host_session.specs.runs.ScriptRuns.{IsScriptRun}
use Rattle.request_cards.specs.declared.reply.Reply.{Reply}
use Rattle.shop_commands.specs.Plays.{IsFileFault, IsPlayEnd, IsPlayedOver}
use Rattle.opened_files.specs.Ends.{JobEnd}
use Rattle.shop_jobs.specs.Replies.{IsToldSome}
use Rattle.shop_jobs.specs.Runs.{IsPlayRun}

-- a script that was run
module _ {D T : Type 0} (h : History D) (o : Output T) (disk : D) (text : List ℕ) (old new : T) where
  script-some : (r : Result D (ScriptFault × D)) → IsScriptRun h o disk text old new r → IsToldSome o old new
  script-some (Ok left) x =
      let (s, shop) = x.shop in
      let run = (x.ok s shop).run in
      inr (over_instants h run.turns, inl run.told)
  script-some (Err (script.Open fault, left)) x = inl (x.«open» fault refl).1
  script-some (Err (script.BadLine n, left)) x = inl (x.bad_line n (x.good n refl)).1
  script-some (Err (script.Output, left)) x =
      let (s, shop) = x.after refl in
      let run = (x.output s shop refl).run in
      inr (over_instants h run.turns, inr ((run.last.0, instant_of h run.last.1), run.told))
  script-some (Err (script.Device, left)) x =
      let (s, shop) = (x.cause refl).0 in
      let run = (x.device s shop refl).run in
      let last : Reply × Instant = (run.last, instant_of h left) in
      ⊎_elim (λ told. inr (over_instants h run.turns ++ last ∷ [], inl told))
      (λ off. inr (over_instants h run.turns, inr (last, off.0))) run.told

  play-some : (r : Result D (CommandFault × D)) → IsPlayEnd h o disk text old new r → IsToldSome o old new
  play-some (Ok left) x = script-some (Ok left) x.0
  play-some (Err e) (inl (is, x)) = script-some (Ok e.1) x
  play-some (Err e) (inr (fault, is, x)) = script-some (Err (fault, e.1)) x

-- and over the file of an image
module _ {F T : Type 0} (K : Keeps F) (o : Output T) (image text : List ℕ) (file after : F) (old new : T) where
  over-some : (end : FileDisk K → Result (FileDisk K) (CommandFault × FileDisk K))
      → IsPlayedOver K o image text file after old new end → IsToldSome o old new
  over-some end x = play-some (in_run K file) o x.disk text old new (end x.left) x.ends

  fault-some : (fault : CommandFault) → IsFileFault K o image text file after old new fault → IsToldSome o old new
  fault-some faults.ImageSize x = inl x.1.1
  fault-some faults.NoMemory x = inl x.1.1
  fault-some faults.File x = over-some (λ left. Err (faults.File, left)) x.1
  fault-some faults.Device (failed, inl x) = over-some (λ left. Ok left) x
  fault-some faults.Device (failed, inr (fault, x)) = over-some (λ left. Err (fault, left)) x
  fault-some _ x = inl x.2.1

  pub run-some : (ended : JobEnd) → IsPlayRun K o image text file after old new ended → IsToldSome o old new
  run-some (Ok found) run = over-some (λ left. Ok left) run.done.1.1
  run-some (Err fault) run = fault-some fault run.fault
