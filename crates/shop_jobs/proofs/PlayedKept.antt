-- What a file kept of a shop while a script was played over it.
use Rattle.std.proofs.Common.{◌≡◌, List, Ok, Err, Some, subst, sym, ⊎_elim, ℕ}
use Rattle.d64_image.specs.FileDisks.{in_run}
use Rattle.d64_image.specs.History.{History}
use Rattle.d64_image.specs.Keeps.{Keeps, KeptOnly}
use Rattle.d64_image.specs.Memory.{sectors_in}
use Rattle.host_session.specs.events.Events.{Message, messages_of}
use Rattle.host_session.specs.events.Telling.{Output}
use Rattle.host_session.specs.runs.Runs.{HeldBeginnings}
use Rattle.host_session.specs.shop.Shop.{IsShop, Shop}
use Rattle.line_text.specs.scripts.Lines.{lines}
use Rattle.shop_commands.specs.Plays.{IsFileFault, IsPlayEnd, IsPlayedOver}
use Rattle.command_faults.specs.declared.faults.CommandFault.{CommandFault}
use Rattle.command_faults.specs.declared.faults.CommandFault.TheVariants as faults
use Rattle.opened_files.specs.Ends.{JobEnd}
use Rattle.shop_jobs.specs.Runs.{IsPlayRun}
use Rattle.shop_jobs.proofs.Begun.{of_none, of_run}
use Rattle.shop_jobs.specs.FilePlays.{IsAfterSome}

module _ {D T : Type 0} (h : History D) (o : Output T) (script : List ℕ) (disk left : D) (old new : T) (s : Shop)
    (is : IsShop (h.image disk) s) where
  moments_ok : IsPlayEnd h o disk script old new (Ok left) → HeldBeginnings h s (messages_of (lines script)) disk left
  moments_ok end = end.0.moments s is

  moments_err : (fault : CommandFault) → IsPlayEnd h o disk script old new (Err (fault, left))
      → HeldBeginnings h s (messages_of (lines script)) disk left
  moments_err fault end = ⊎_elim (λ e. e.1.moments s is) (λ e. e.2.moments s is) end

module _ {F T : Type 0} (K : Keeps F) (o : Output T) (image script : List ℕ) (file after : F) (old new : T) (s : Shop)
    (is : IsShop (sectors_in image) s) (kept : K.kept file ≡ Some (sectors_in image)) where
  abbrev ms : List Message
  ms = messages_of (lines script)

  same : after ≡ file → KeptOnly K file after (IsAfterSome s ms)
  same e = of_none K (sectors_in image) file after s ms is kept e

  pub of_whole : IsPlayedOver K o image script file after old new (λ left. Ok left)
      → KeptOnly K file after (IsAfterSome s ms)
  of_whole x = of_run K (sectors_in image) file after s ms is kept x.disk x.left x.is_file x.is_after x.holds
      (moments_ok (in_run K file) o script x.disk x.left old new s (subst (λ img. IsShop img s) (sym x.holds) is)
      x.ends)

  of_part : (fault : CommandFault) → IsPlayedOver K o image script file after old new (λ left. Err (fault, left))
      → KeptOnly K file after (IsAfterSome s ms)
  of_part fault x = of_run K (sectors_in image) file after s ms is kept x.disk x.left x.is_file x.is_after x.holds
      (moments_err (in_run K file) o script x.disk x.left old new s (subst (λ img. IsShop img s) (sym x.holds) is) fault
      x.ends)

  of_fault : (fault : CommandFault) → IsFileFault K o image script file after old new fault
      → KeptOnly K file after (IsAfterSome s ms)
  of_fault faults.ImageSize e = same e.1.0
  of_fault faults.NoMemory e = same e.1.0
  of_fault (faults.ScriptLine line) e = same e.2.0
  of_fault faults.File e = of_part faults.File e.1
  of_fault faults.Device e = ⊎_elim (λ x. of_whole x) (λ x. of_part x.0 x.1) e.1
  of_fault _ e = same e.2.0

  -- however the play ended
  pub of_play : (end : JobEnd) → IsPlayRun K o image script file after old new end → KeptOnly K file after (IsAfterSome s ms)
  of_play (Ok v) x = of_whole x.done.1.1
  of_play (Err fault) x = of_fault fault x.fault
