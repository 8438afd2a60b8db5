-- What comes of images that are described. All of it is our own.
use Rattle.std.specs.Prelude.{◌≡◌, ◌⊎◌, ℕ, Bool, List, [], Option, Result, Ok, Err}
use Rattle.std.specs.Io.KnownBytes.{Appends}
use Rattle.command_faults.specs.declared.faults.CommandFault.{CommandFault}
use Rattle.disk_reports.specs.Outcomes.{IsDescribeFault, IsDescribed}
use Rattle.disk_reports.specs.Plans.{plan_heading}
use Rattle.disk_reports.specs.Rows.{heading, heading_as_is, refused_as_is, refused_row}
use Rattle.json_looks.specs.Checks.{IsCheckFault, IsRowShown}
use Rattle.image_looks.specs.Plans.{IsPlanFault, IsPlanOf, IsPlanRefusal}
use Rattle.image_looks.specs.declared.descriptions.ImageForm.{ImageForm}
use Rattle.image_looks.specs.declared.descriptions.ImageForm.TheVariants as forms
use Rattle.disk_layout.specs.declared.faults.Fault.{Fault}
use Rattle.image_looks.specs.EachImage.{Loaded}
use Rattle.image_looks.specs.ShownObjects.{IsShownAs, IsShownFault, refusal_data, status_if}
use Rattle.json_looks.specs.Objects.{IsObjectPrinted}
use Rattle.opened_files.specs.Ends.{end_status}
use Rattle.command_faults.specs.Faults.{command_status, command_text}

-- what stands before the first image
abbrev pub heading_of : ImageForm → List ℕ
heading_of forms.Table = heading
heading_of forms.TableAsIs = heading_as_is
heading_of (forms.Planned form) = plan_heading form
heading_of (forms.Shown object) = []

-- an image at this path that is refused was printed: by why, and by the size that the system says
abbrev pub IsRefusalPrinted : {W : Type 0} → (W → Option (List ℕ)) → ImageForm → List ℕ → CommandFault → W → W → Type 0
IsRefusalPrinted contents forms.Table path refusal old new =
    (size : Option ℕ) × Appends (contents old) (contents new) (refused_row path size (command_text refusal))
IsRefusalPrinted contents forms.TableAsIs path refusal old new =
    (size : Option ℕ) × Appends (contents old) (contents new) (refused_as_is path size (command_text refusal))
IsRefusalPrinted contents (forms.Planned form) path refusal old new = IsPlanRefusal contents form path refusal old new
IsRefusalPrinted contents (forms.Shown object) path refusal old new =
    (size : Option ℕ) × IsObjectPrinted contents (refusal_data object path size (command_text refusal)) old new

-- and its status is that of the refusal
abbrev pub IsRefusalDescribed : {W : Type 0} → (W → Option (List ℕ)) → ImageForm → List ℕ → CommandFault → W → W → ℕ → Type 0
IsRefusalDescribed contents form path refusal old new status =
    IsRefusalPrinted contents form path refusal old new × (status ≡ command_status refusal)

-- the exit status of a check that finds this; or why it isn't made
abbrev pub found_status : Result (Option Fault) CommandFault → Result ℕ CommandFault
found_status (Ok found) = Ok (end_status (Ok found))
found_status (Err fault) = Err fault

-- an image at this path with these bytes was described, and a check of it alone would have this exit status
abbrev pub IsOneDescribed : {W : Type 0} → (W → Option (List ℕ)) → ImageForm → (path image : List ℕ) → W → W → ℕ → Type 0
IsOneDescribed contents forms.Table path image old new status =
    (found : Option Fault) × IsDescribed contents path image old new found × (status ≡ end_status (Ok found))
IsOneDescribed contents forms.TableAsIs path image old new status =
    (whole : Bool) × IsRowShown contents path image old new whole × (status ≡ status_if whole)
IsOneDescribed contents (forms.Planned form) path image old new status =
    (found : Option Fault) × IsPlanOf contents form path image old new found × (status ≡ end_status (Ok found))
IsOneDescribed contents (forms.Shown object) path image old new status = IsShownAs contents object path image old new status

-- why it isn't
abbrev pub IsDescribingFault : ImageForm → (image : List ℕ) → CommandFault → Type 0
IsDescribingFault forms.Table image fault = IsDescribeFault image fault
IsDescribingFault forms.TableAsIs image fault = IsCheckFault image fault
IsDescribingFault (forms.Planned form) image fault = IsPlanFault image fault
IsDescribingFault (forms.Shown object) image fault = IsShownFault object image fault

-- an image at this path that has these bytes was described, with the status of its check
abbrev pub IsImageDescribed : {W : Type 0} → (W → Option (List ℕ)) → ImageForm → List ℕ → (image : List ℕ) → W → W → ℕ → Type 0
IsImageDescribed contents form path image old new status =
    IsOneDescribed contents form path image old new status
    ⊎ ((fault : CommandFault) × IsDescribingFault form image fault
    × IsRefusalDescribed contents form path fault old new status)

-- an image at this path from which this was read was described
abbrev pub IsDescribedFrom : {W : Type 0} → (W → Option (List ℕ)) → ImageForm → List ℕ → Loaded → W → W → ℕ → Type 0
IsDescribedFrom contents form path (Ok image) old new status = IsImageDescribed contents form path image old new status
IsDescribedFrom contents form path (Err refusal) old new status = IsRefusalDescribed contents form path refusal old new status
