-- What was printed of a service or a play over a log, by how its run ended and its log was landed.
use Rattle.std.proofs.Common.{◌≡◌, ◌∙◌, ℕ, Bool, true, false, List, None, Option, Result, Ok, Err, ap, inl, inr, refl, subst, sym, ⊎_elim}
use Rattle.std.specs.Prelude.{IfOk}
use Rattle.command_faults.specs.declared.faults.CommandFault.{CommandFault}
use Rattle.command_faults.specs.declared.faults.CommandFault.TheVariants as faults
use Rattle.image_log.specs.life.Folders.{FolderHistory}
use Rattle.image_log.specs.declared.life.live_log.LiveLog.{LiveLog}
use Rattle.line_server.specs.Batches.{BatchInput}
use Rattle.line_server.specs.logged.Reporting.{LogOutput}
use Rattle.image_log.specs.ImageLogs.{LogHistory}
use Rattle.image_log.specs.declared.log_file.LogFile.{Ghosts}
use Rattle.shop_jobs.specs.ServiceEnds.{IsLoggedEnd, IsQuietEnd}
use Rattle.opened_files.specs.Ends.{JobEnd, as_run}
use Rattle.shop_jobs.specs.LandedRuns.{IsDoneAndLanded, watched_end}
use Rattle.shop_jobs.specs.LoggedRuns.{IsLoggedRun}
use Rattle.opened_files.specs.Losses.{IsEndOfRun}
use Rattle.shop_jobs.specs.declared.watched_files.RepliesWhileNamed.{RepliesWhileNamed}

-- before its log is landed, a service that is done printed no fault; one that isn't printed nothing, unless the input, the
-- output or the log failed
abbrev pub IsServiceEnd : {W : Type 0} → W → W → JobEnd → Type 0
IsServiceEnd old new end = IfOk end (λ found. found ≡ None) × IsQuietEnd old new end

-- a run over a log that isn't done printed nothing, unless the input, the output or the log failed
module _ {L R T : Type 0} (h : LogHistory L) (i : BatchInput R) (o : LogOutput L T) (image : List ℕ) (log after : L)
    (old_in new_in : R) (old new : T) where
  pub run-quiet : (ended : Result Unit CommandFault) → IsLoggedRun h i o image log after old_in new_in old new ended
      → IsServiceEnd old new (as_run ended)
  run-quiet (Ok _) run = (refl, tt)
  run-quiet (Err faults.File) run = (tt, λ other _. absurd (other refl))
  run-quiet (Err faults.Device) run = (tt, λ _ other. absurd (other refl))
  run-quiet (Err (faults.ScriptLine line)) run = absurd run
  run-quiet (Err _) run = (tt, λ _ _. run.1.2)

  pub service-quiet : (end : JobEnd) → IsEndOfRun (IsLoggedRun h i o image log after old_in new_in old new) end
      → IsServiceEnd old new end
  service-quiet end (ended, is, run) = subst (λ e. IsServiceEnd old new e) (sym is) (run-quiet ended run)

module _ {T : Type 0} (old new : T) where
  -- if the file had gone, the end is `Device`
  pub watched : (gone : Bool) (ended : JobEnd) → IsServiceEnd old new ended → IsServiceEnd old new (watched_end gone ended)
  watched true ended is = (tt, λ _ other. absurd (other refl))
  watched false ended is = is

  landed-end : (ended end : JobEnd) → IsServiceEnd old new ended → end ≡ ended → IsLoggedEnd old new end
  landed-end (Ok found) end is same = subst (λ e. IsLoggedEnd old new e) (sym same) (is.0, tt)
  landed-end (Err refusal) end is same =
      subst (λ e. IsLoggedEnd old new e) (sym same) (tt, λ _ file device. is.1 file device)

  -- the log was landed then, or couldn't be
  pub landed-quiet : {F D : Type 0} {G : Ghosts F} (h : FolderHistory D) (IsDone : LiveLog F D G → JobEnd → Type 0)
      → ((left : LiveLog F D G) (ended : JobEnd) → IsDone left ended → IsServiceEnd old new ended)
      → (gone : Bool) (folder : Option D) (end : JobEnd) → IsDoneAndLanded h IsDone gone folder end
      → IsLoggedEnd old new end
  landed-quiet h IsDone quiet gone folder end x =
      ⊎_elim (λ same. landed-end (watched_end gone x.ended) end (watched gone x.ended (quiet x.left x.ended x.done)) same)
      (λ unlanded. ⊎_elim
      (λ device. subst (λ e. IsLoggedEnd old new e) (sym device) (tt, λ _ _ other. absurd (other refl)))
      (λ memory. subst (λ e. IsLoggedEnd old new e) (sym memory) (tt, λ other _ _. absurd (other refl))) unlanded)
      x.landed.told

-- an output to which replies go while a file is there, and which was lent and is given back
pub watched-back : {N T : Type 0} (before behind : RepliesWhileNamed N T) (old new : T) → before.out.now ≡ old
    → (before.out.ghost_name ≡ behind.out.ghost_name → new ≡ behind.out.now) → behind ≡ before → new ≡ old
watched-back before behind old new begun back same =
    back (ap (λ w. w.out.ghost_name) (sym same)) ∙ ap (λ w. w.out.now) same ∙ begun

-- what was passed to it was passed to the caller's
pub passed-back : {N T : Type 0} (before behind : RepliesWhileNamed N T) (old new : T) → before.out.now ≡ old
    → (before.out.ghost_name ≡ behind.out.ghost_name → new ≡ behind.out.now) → (P : T → T → Type 0)
    → behind.out.ghost_name ≡ before.out.ghost_name → P before.out.now behind.out.now → P old new
passed-back before behind old new begun back P same x =
    subst (λ w. P w new) begun (subst (λ w. P before.out.now w) (sym (back (sym same))) x)

-- an output that was lent is as it was if the one over it is
module _ {T W : Type 0} (before behind : T) (old new : W) (back : behind ≡ before → new ≡ old) where
  pub lent-logged : (end : JobEnd) → IsLoggedEnd before behind end → IsLoggedEnd old new end
  lent-logged (Ok found) is = is
  lent-logged (Err refusal) is = (tt, λ memory file device. back (is.1 memory file device))
