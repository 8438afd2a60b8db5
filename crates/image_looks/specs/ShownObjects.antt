-- What comes of showing an image as an object of JSON. All of it is our own.
use Rattle.std.specs.Prelude.{◌≡◌, ◌≢◌, ◌⊎◌, ℕ, Bool, IsFalse, List, Option, Result, Ok, Err, if◌then◌else◌, length}
use Rattle.command_faults.specs.declared.faults.CommandFault.{CommandFault}
use Rattle.command_faults.specs.declared.faults.CommandFault.TheVariants as faults
use Rattle.damaged_files.specs.reached.Sizes.{disk_of}
use Rattle.damaged_files.specs.declared.sides.planning.Loss.{Loss}
use Rattle.disk_pictures.specs.Outcomes.{IsPictureFault}
use Rattle.image_log.specs.life.Tags.{SaysLogAway}
use Rattle.image_looks.specs.declared.objects.ImageObject.{ImageObject}
use Rattle.image_looks.specs.declared.objects.ImageObject.TheVariants as objects
use Rattle.json_looks.specs.Checks.{IsCheckFault, IsCheckShown, unchecked_data}
use Rattle.json_looks.specs.FreeCounts.{AreFreePrinted, IsFreeFault}
use Rattle.json_looks.specs.Listings.{IsListFault, IsListed}
use Rattle.json_looks.specs.Objects.{refused_data}
use Rattle.json_looks.specs.SectorMaps.{IsMapShown}
use Rattle.json_looks.specs.Shops.{IsShown}
use Rattle.opened_files.specs.Losses.{IsAwayFault, IsNear}
use Rattle.serde_json.specs.Data.{Data}
use Rattle.shop_commands.specs.Shops.{IsShowFault}

-- 1 for a disk with a fault, or for an image of which something isn't there
abbrev pub status_if : (whole : Bool) → ℕ
status_if whole = if whole then 0 else 1

-- the exit status of a look that finds no faults, and of one that says whether the image is whole; or why there is none
abbrev pub status_by : {T : Type 0} → Result T CommandFault → Result ℕ CommandFault
status_by (Ok _) = Ok 0
status_by (Err fault) = Err fault

abbrev pub status_of : Result Bool CommandFault → Result ℕ CommandFault
status_of (Ok whole) = Ok (status_if whole)
status_of (Err fault) = Err fault

-- the image is a disk of 35 tracks alone, unless it may be longer
abbrev pub IsTaken : (as_is : Bool) → (image : List ℕ) → Type 0
IsTaken as_is image = IsFalse as_is → length image ≡ 174848

-- an image of this name was shown as this object, and its exit status is this
abbrev pub IsShownAs : {W : Type 0} → (W → Option (List ℕ)) → ImageObject → (name image : List ℕ) → W → W → ℕ → Type 0
IsShownAs contents (objects.Check as_is) name image old new status =
    (whole : Bool) × IsTaken as_is image × IsCheckShown contents name image old new whole × (status ≡ status_if whole)
IsShownAs contents (objects.List as_is) name image old new status = IsListed contents name image old new × (status ≡ 0)
IsShownAs contents objects.Free name image old new status = AreFreePrinted contents name image old new × (status ≡ 0)
IsShownAs contents objects.Map name image old new status =
    (whole : Bool) × IsMapShown contents name image old new whole × (status ≡ status_if whole)
IsShownAs contents (objects.Show loss as_is) name image old new status =
    IsNear loss image × IsShown contents name image old new × (status ≡ 0)

-- why what an image holds of a shop isn't shown: its log has the rest and that loss isn't accepted; or for the fault of a `show`
abbrev pub IsShopFault : Loss → (image : List ℕ) → CommandFault → Type 0
IsShopFault loss image fault = IsAwayFault loss (SaysLogAway image) fault ⊎ IsShowFault image fault

-- why an image isn't checked: it hasn't the size of a disk, or none of the sizes that are taken; or memory, or the output
abbrev pub IsCheckedFault : (as_is : Bool) → (image : List ℕ) → CommandFault → Type 0
IsCheckedFault as_is image fault = (IsFalse as_is × (fault ≡ faults.ImageSize) × (length image ≢ 174848)) ⊎ IsCheckFault image fault

-- the object of an image that is refused for this reason: of a check with all its members, and its size if that is known
abbrev pub refusal_data : ImageObject → (name : List ℕ) → (size : Option ℕ) → (why : List ℕ) → Data
refusal_data (objects.Check as_is) name size why = unchecked_data name size why
refusal_data _ name size why = refused_data name why

-- why an image isn't shown
abbrev pub IsShownFault : ImageObject → (image : List ℕ) → CommandFault → Type 0
IsShownFault (objects.Check as_is) image fault = IsCheckedFault as_is image fault
IsShownFault (objects.List as_is) image fault = IsListFault image fault
IsShownFault objects.Free image fault = IsFreeFault image fault
IsShownFault objects.Map image fault = IsPictureFault (disk_of image) fault
IsShownFault (objects.Show loss as_is) image fault = IsShopFault loss image fault
