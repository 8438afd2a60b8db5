-- What comes of a job that is run over the bytes of its files. All of it is our own.
use Rattle.ledger_cli.specs.Changed.{IsChangeJob}
use Rattle.std.specs.Prelude.{◌≡◌, ◌⊎◌, ℕ, List, Option, None, Some, Ok, Err}
use Rattle.d64_image.specs.declared.device_as_file.DeviceAsFile.{DeviceAsFile}
use Rattle.d64_image.specs.declared.mirror.Mirror.{Mirror}
use Rattle.ledger_cli.specs.Making.{IsImageCopied, IsImageMade}
use Rattle.ledger_cli.specs.Streams.{HandsSectors, IsBegun, WhyUnbegun, stream, stream_file}
use Rattle.host_session.specs.runs.Outputs.{written}
use Rattle.line_text.specs.Handed.{AppendsPart}
use Rattle.command_faults.specs.declared.faults.CommandFault.{CommandFault}
use Rattle.command_faults.specs.declared.faults.CommandFault.TheVariants as faults
use Rattle.image_looks.specs.Comparisons.{IsComparingRun}
use Rattle.opened_files.specs.Ends.{EndsAs, JobEnd, as_run, end_status, refusal_line}
use Rattle.disk_changes.specs.Changes.{IsChangedBy, IsUnchangedBy}
use Rattle.file_changes.specs.Names.{name_bytes}
use Rattle.image_edits.specs.NewDisks.{IsNewImage}
use Rattle.shop_commands.specs.Images.{AreFreshBytes}
use Rattle.image_looks.specs.Looks.{IsLook}
use Rattle.shop_jobs.specs.Runs.{IsDryRun, IsPlayRun}
use Rattle.ledger_jobs.specs.declared.jobs.Job.{Job}
use Rattle.ledger_jobs.specs.declared.jobs.Job.TheVariants as jobs

-- A job that writes an image wasn't begun: the file and the output are as they were.
pub record IsUnbegun {F W : Type 0} (image : List ℕ) (file after : Option F) (old new : W) (end : JobEnd) : Type 0 where
  pub fault : CommandFault
  pub is : end ≡ Err fault
  pub why : WhyUnbegun image file fault
  pub same : after ≡ file
  pub silent : new ≡ old

-- It was run over the disk of the image and the file that was handed in, and the file was left so.
pub record IsRunOver {F : Type 0} (image : List ℕ) (file after : Option F)
    (P : DeviceAsFile (Mirror F) → DeviceAsFile (Mirror F) → Type 0) : Type 0 where
  pub before : DeviceAsFile (Mirror F)
  pub left : DeviceAsFile (Mirror F)
  pub begun : IsBegun image before
  pub is_file : file ≡ Some (stream_file before)
  pub is_left : after ≡ Some (stream_file left)
  pub run : P before left

-- one of both
abbrev pub IsOverFile : {F W : Type 0} → List ℕ → Option F → Option F → W → W → JobEnd
    → (DeviceAsFile (Mirror F) → DeviceAsFile (Mirror F) → Type 0) → Type 0
IsOverFile image file after old new end P = IsUnbegun image file after old new end ⊎ IsRunOver image file after P

module _ {F : Type 0} (position : F → Option ℕ) (bytes contents : F → Option (List ℕ)) {W : Type 0} where
  -- the making of an image over the file ended so; without one it isn't made
  abbrev pub IsFormatted : (W → Option (List ℕ)) → ℕ → Option F → Option F → W → W → JobEnd → Type 0
  IsFormatted told tills None after old new end = (after ≡ None) × (new ≡ old) × (end ≡ Err faults.File)
  IsFormatted told tills (Some file) after old new end = (left : F) × (after ≡ Some left)
      × EndsAs as_run end
      (IsImageMade position bytes contents told (AreFreshBytes tills) file left old new)

  -- the making of the image of an empty disk did
  abbrev pub IsNewMade : (W → Option (List ℕ)) → (name id : List ℕ) → Option F → Option F → W → W → JobEnd → Type 0
  IsNewMade told name id None after old new end = (after ≡ None) × (new ≡ old) × (end ≡ Err faults.File)
  IsNewMade told name id (Some file) after old new end = (left : F) × (after ≡ Some left)
      × EndsAs as_run end
      (IsImageMade position bytes contents told (IsNewImage name id) file left old new)

  -- the copy of the image to the file ended so; without a file it isn't made
  abbrev pub IsCopyJob : (W → Option (List ℕ)) → List ℕ → Option F → Option F → W → W → JobEnd → Type 0
  IsCopyJob told image None after old new end = (after ≡ None) × (new ≡ old) × (end ≡ Err faults.File)
  IsCopyJob told image (Some file) after old new end = (left : F) × (after ≡ Some left)
      × EndsAs as_run end (IsImageCopied position bytes contents told image file left old new)

  -- the play of a script did
  abbrev pub IsPlayed : (W → Option (List ℕ)) → (image script : List ℕ) → Option F → Option F → W → W → JobEnd → Type 0
  IsPlayed told image script file after old new end = IsOverFile image file after old new end
      (λ f left. IsPlayRun (stream position bytes contents) (written told) image script f left old new end
      × HandsSectors position bytes contents image f left)

  -- what comes of each job: its run over the bytes that it reads, and over the file that it writes
  abbrev pub IsJobRun : (W → Option (List ℕ)) → Job → (image script : List ℕ) → Option F → Option F → W → W → JobEnd
      → Type 0
  IsJobRun told (jobs.Format path tills) image script file after old new end =
      IsFormatted told tills file after old new end
  IsJobRun told (jobs.FormatNew path tills) image script file after old new end =
      IsFormatted told tills file after old new end
  IsJobRun told (jobs.New path name id) image script file after old new end =
      IsNewMade told (name_bytes name) id file after old new end
  IsJobRun told (jobs.Look path what) image script file after old new end = (after ≡ file) × IsLook told what image old new end
  IsJobRun told (jobs.Dry path) image script file after old new end = (after ≡ file) × IsDryRun told script old new end
  IsJobRun told (jobs.Play path text loss) image script file after old new end =
      IsPlayed told image script file after old new end
  IsJobRun told (jobs.PlayLogged path text loss) image script file after old new end =
      IsPlayed told image script file after old new end
  IsJobRun told (jobs.Serve path loss) image script file after old new end =
      (after ≡ file) × (new ≡ old) × (end ≡ Err faults.File)
  IsJobRun told (jobs.Copy path copy) image script file after old new end = IsCopyJob told image file after old new end
  IsJobRun told (jobs.Salvage log copy) image script file after old new end =
      (after ≡ file) × (new ≡ old) × (end ≡ Err faults.File)
  IsJobRun told (jobs.Change path effect loss kind) image script file after old new end =
      IsChangeJob position bytes contents told effect (IsChangedBy kind loss script image) (IsUnchangedBy kind loss script image)
      file after old new end
  IsJobRun told (jobs.Trim path) image script file after old new end =
      (after ≡ file) × (new ≡ old) × (end ≡ Err faults.File)
  IsJobRun told (jobs.Compare before later) image script file after old new end =
      (after ≡ file) × IsComparingRun told before.now image later.now script old new end
  IsJobRun told (jobs.Several what paths) image script file after old new end =
      (after ≡ file) × (new ≡ old) × (end ≡ Err faults.File)
  IsJobRun told (jobs.Sheet paths) image script file after old new end =
      (after ≡ file) × (new ≡ old) × (end ≡ Err faults.File)
  IsJobRun told (jobs.Describe form paths) image script file after old new end =
      (after ≡ file) × (new ≡ old) × (end ≡ Err faults.File)
  IsJobRun told (jobs.Extract choice path folder) image script file after old new end =
      (after ≡ file) × (new ≡ old) × (end ≡ Err faults.File)

-- what is reported of a job's end: nothing if it is done; otherwise its line, or a first part of that
abbrev pub IsEndTold : {E : Type 0} → (E → Option (List ℕ)) → E → E → JobEnd → Type 0
IsEndTold contents old new (Ok _) = new ≡ old
IsEndTold contents old new (Err refusal) = AppendsPart (contents old) (contents new) (refusal_line refusal)

-- a job was run over this file: it ended so, with this status, and that was reported
pub record IsRun {F W E : Type 0} (position : F → Option ℕ) (bytes contents : F → Option (List ℕ))
    (printed : W → Option (List ℕ)) (told : E → Option (List ℕ)) (job : Job) (image script : List ℕ)
    (file after : Option F) (old new : W) (err new_err : E) (status : ℕ) : Type 0 where
  pub end : JobEnd
  pub is : IsJobRun position bytes contents printed job image script file after old new end
  pub status_is : status ≡ end_status end
  pub said : IsEndTold told err new_err end
