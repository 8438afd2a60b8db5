-- What a run of the program ends with, and what it leaves of the output and of the file. All of it is our own.
use Rattle.std.specs.Prelude.{◌≡◌, ℕ, List, Option, Some, None, Result, Ok, Err, IfErr, IfOk}
use Rattle.command_faults.specs.declared.faults.CommandFault.{CommandFault}
use Rattle.shop_commands.specs.declared.dry_run.DryFault.{DryFault}
use Rattle.shop_commands.specs.declared.dry_run.DryFault.TheVariants as dry
use Rattle.command_faults.specs.declared.faults.CommandFault.TheVariants as faults
use Rattle.std.specs.Io.KnownBytes.{Appends}
use Rattle.d64_image.specs.Keeps.{Keeps}
use Rattle.host_session.specs.events.Telling.{Output}
use Rattle.shop_commands.specs.Plays.{IsFileFault, IsPlayedFile}
use Rattle.line_text.specs.scripts.Lines.{first_reset, lines}
use Rattle.shop_commands.specs.DryRuns.{dry_report}
use Rattle.opened_files.specs.Ends.{JobEnd, IsQuietPrint}

-- why a script isn't played without a disk: its first bad line, or the output
abbrev pub IsDryRefusal : List ℕ → CommandFault → Type 0
IsDryRefusal script (faults.ScriptLine line) = first_reset (lines script) ≡ Some line
IsDryRefusal script faults.File = first_reset (lines script) ≡ None
IsDryRefusal script _ = ⊥

-- The replies to a script were printed, from no cards on and without a disk; or they weren't.
abbrev pub IsDryRun : {W : Type 0} → (W → Option (List ℕ)) → (script : List ℕ) → W → W → JobEnd → Type 0
IsDryRun {W} contents script old new end = IsQuietPrint (λ (before after : W). (first_reset (lines script) ≡ None)
    × Appends (contents before) (contents after) (dry_report script)) (IsDryRefusal script) old new end

-- A run that plays a script on the shop of an image, over the file that was passed in, ended so: each line was played
-- on the disk of the file, its reply printed, and all of them handed on; or it wasn't, for this reason.
pub record IsPlayRun {F T : Type 0} (K : Keeps F) (o : Output T) (image script : List ℕ) (file after : F) (old new : T)
    (ended : JobEnd) : Type 0 where
  pub done : IfOk ended (λ printed. (printed ≡ None) × IsPlayedFile K o image script file after old new)
  pub fault : IfErr ended (IsFileFault K o image script file after old new)

-- the end of a run without a disk
abbrev pub dry_end : Result Unit DryFault → JobEnd
dry_end (Ok _) = Ok None
dry_end (Err (dry.BadLine line)) = Err (faults.ScriptLine line)
dry_end (Err dry.Output) = Err faults.File
