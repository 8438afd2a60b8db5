-- A folder whose image is changed.
use Rattle.std.proofs.Common.{◌≡◌, ◌⊎◌, ℕ, List, inl, inr, length, refl, subst, sym, true, ⊎_elim}
use Rattle.std.specs.Prelude.{◌≢◌, Err, IfErr, IfOk, None, Ok, OnErr, Option, Result}
use Rattle.std.specs.Io.KnownBytes.{Appends}
use Rattle.command_faults.specs.Outputs.{HandsPart}
use Rattle.d64_image.specs.Images.{Image}
use Rattle.d64_image.specs.Memory.{disk_image, sectors_in}
use Rattle.disk_changes.proofs.Copied.{copied-in-memory}
use Rattle.disk_changes.proofs.GeosPut.{geos-put-in-memory}
use Rattle.disk_changes.proofs.Repaired.{repaired-in-memory, undeleted-in-memory}
use Rattle.damaged_files.specs.declared.sides.planning.Loss.{Loss}
use Rattle.disk_changes.specs.Changes.{IsBarredBy, IsChanged, IsRefused}
use Rattle.disk_changes.specs.Repairs.{frees}
use Rattle.disk_changes.specs.declared.changes.Change.{Change}
use Rattle.disk_changes.specs.declared.changes.ChangeKind.{ChangeKind}
use Rattle.disk_changes.specs.declared.changes.ChangeKind.TheVariants as kinds
use Rattle.disk_changes.specs.declared.changes.Columns.TheVariants as columns
use Rattle.disk_changes.specs.declared.changes.Changed.{Changed}
use Rattle.command_faults.specs.declared.faults.CommandFault.{CommandFault}
use Rattle.file_changes.specs.Names.{name_bytes}
use Rattle.folder_changes.specs.FolderChanges.{GivesChanged, HasNotBegun, IsLeft, IsMade, IsToldAs, IsUnplaced}
use Rattle.command_faults.specs.declared.faults.CommandFault.TheVariants as faults
use Rattle.image_log.specs.life.Bringing.{RestsAlone, RestsWith}
use Rattle.image_log.specs.life.Folders.{FolderHistory, LeavesFolders}
use Rattle.image_log.specs.life.Replacing.{KeepsOrGives}
use Rattle.image_log.specs.life.Shops.{given_by}
use Rattle.image_log.proofs.lemmas.life.Steps.{started, weaker}

-- before anything is done
pub quiet-moments : {D : Type 0} (h : FolderHistory D) (before after : Image) (d : D) → RestsAlone h d before
    → LeavesFolders h d d (KeepsOrGives None before after)
quiet-moments h before after d rests = started h d (KeepsOrGives None before after) (λ s may. inl (rests.left s may))

-- the disk that came of a change replaces the image
pub replaced : {D : Type 0} (h : FolderHistory D) (old new : D) (now before shop after : Image) → now ≡ before
    → shop ≡ after
    → ((log : Option (List ℕ)) → RestsWith h old log now → LeavesFolders h old new (KeepsOrGives log now shop))
    → RestsAlone h old before → LeavesFolders h old new (KeepsOrGives None before after)
replaced h old new now before shop after is to moments rests =
    subst (λ (i : Image). LeavesFolders h old new (KeepsOrGives None before i)) to
    (subst (λ (i : Image). LeavesFolders h old new (KeepsOrGives None i shop)) is
    (moments None (subst (RestsAlone h old) (sym is) rests)))

module _ {D : Type 0} (h : FolderHistory D) (what : Change) (image : List ℕ) where
  pub made-moments : (d new : D) (made : Changed) → IsChanged what image made
      → LeavesFolders h d new (KeepsOrGives None (sectors_in image) (disk_image made.disk))
      → LeavesFolders h d new (GivesChanged what image)
  made-moments d new made is moments = weaker h d new (KeepsOrGives None (sectors_in image) (disk_image made.disk))
      (GivesChanged what image)
      (λ s gives. ⊎_elim
      (λ old. inl (subst (λ (l : Option (List ℕ)). given_by l s.image (sectors_in image)) (sym old.1) old.0))
      (λ after. inr (made, is, after)) gives) moments

-- a change that is made was printed, or not
pub printed : {W : Type 0} (contents : W → Option (List ℕ)) (Is : Changed → Type 0) (Refuses : CommandFault → Type 0)
    (Kept : Type 0) (before after : W) (made : Changed) → Is made → (r : Result ℕ CommandFault)
    → IfOk r (λ left. (left ≡ made.left) × Appends (contents before) (contents after) made.text.items)
    → OnErr r (HandsPart (contents before) (contents after) made.text.items) → IfErr r (λ fault. fault ≡ faults.File)
    → IsToldAs contents Is Refuses Kept before after r
printed contents Is Refuses Kept before after made is (Ok left) all part output = (made, is, all.0, all.1)
printed contents Is Refuses Kept before after made is (Err fault) all part output =
    subst (λ (s : CommandFault). IsToldAs contents Is Refuses Kept before after (Err s)) (sym output) (inr (made, is, part))

-- what bars a change in memory is neither the output nor the device
barred-in-memory : (kind : ChangeKind) (loss : Loss) (source image : List ℕ)
    → (IsBarredBy kind loss source image faults.File → ⊥) × (IsBarredBy kind loss source image faults.Device → ⊥)
barred-in-memory (kinds.Repair unowned) loss source image = repaired-in-memory image (frees unowned) loss
barred-in-memory (kinds.RepairSides unowned) loss source image = (
  λ why. ⊎_elim (λ w. w) (λ w. (repaired-in-memory w.0 (frees unowned) loss).0 w.2) why,
  λ why. ⊎_elim (λ w. w) (λ w. (repaired-in-memory w.0 (frees unowned) loss).1 w.2) why,
)
barred-in-memory (kinds.Delete name) loss source image =
    (λ why. ⊎_elim (λ w. w) (λ w. w.2) why, λ why. ⊎_elim (λ w. w) (λ w. w.2) why)
barred-in-memory (kinds.Undelete kind name) loss source image = undeleted-in-memory image (name_bytes name) kind loss
barred-in-memory (kinds.CopyFile from name to) loss source image =
    copied-in-memory source (name_bytes name) (name_bytes to) image loss
barred-in-memory (kinds.PutGeos file name) loss source image =
    geos-put-in-memory image (name_bytes name) source loss
barred-in-memory (kinds.Store records columns.One name) loss source image = (λ why. why, λ why. why)
barred-in-memory (kinds.Store records (columns.Several form) name) loss source image = (λ why. why, λ why. why)
barred-in-memory (kinds.Store records (columns.Text set) name) loss source image =
    (λ why. ⊎_elim (λ w. w) (λ w. w.2) why, λ why. ⊎_elim (λ w. w) (λ w. w.2) why)
barred-in-memory kinds.Sort loss source image =
    (λ why. ⊎_elim (λ w. w) (λ w. w.3) why, λ why. ⊎_elim (λ w. w) (λ w. w.3) why)
barred-in-memory _ loss source image = (λ why. why, λ why. why)

-- and so it is with art aside
pub in-memory : (what : Change) (image : List ℕ) → (IsRefused what image faults.File → ⊥) × (IsRefused what image faults.Device → ⊥)
in-memory what image =
    let barred = barred-in-memory what.kind.now what.loss what.source.now in (
      λ why. ⊎_elim (λ w. (barred image).0 w.0) (λ rest. ⊎_elim (λ load. load) (λ w. (barred w.1).0 w.3) rest) why,
      λ why. ⊎_elim (λ w. (barred image).1 w.0) (λ rest. ⊎_elim (λ load. load) (λ w. (barred w.1).1 w.3) rest) why,
    )

-- an image that is changed has the size of one
pub sized : (what : Change) (image : List ℕ) (made : Changed) → IsChanged what image made → length image ≡ 174848
sized what image made is = is.0

-- nothing is printed of a change that isn't put in place
pub unplaced : {W D : Type 0} (h : FolderHistory D) (contents : W → Option (List ℕ)) (what : Change) (image : List ℕ) (old new : D)
    (w : W) (fault : CommandFault) → length image ≡ 174848 → IsUnplaced h image old new fault
    → IsToldAs contents (IsMade h what image old new) (IsLeft h what image old new) (HasNotBegun h image old new) w w (Err fault)
unplaced h contents what image old new w faults.NoMemory size same = ((inr (inl size), same), refl)
unplaced h contents what image old new w faults.File size kept = inl (kept, refl)
unplaced h contents what image old new w faults.Device size is = refl
unplaced h contents what image old new w _ size is = absurd is

-- nothing is printed of a change that is refused
pub refused : {W : Type 0} (contents : W → Option (List ℕ)) (Is : Changed → Type 0) (Refuses : CommandFault → Type 0) (Kept : Type 0)
    (w : W) (fault : CommandFault) → (Refuses faults.File → ⊥) → Refuses fault → IsToldAs contents Is Refuses Kept w w (Err fault)
refused contents Is Refuses Kept w faults.Device no-output why = refl
refused contents Is Refuses Kept w faults.File no-output why = absurd (no-output why)
refused contents Is Refuses Kept w _ no-output why = (why, refl)

-- only an output fails while a text is printed
pub no-device : (r : Result ℕ CommandFault) → IfErr r (λ fault. fault ≡ faults.File) → r ≢ Err faults.Device
no-device (Ok left) output device = cc
no-device (Err fault) output device = cc

-- what is known of a change and of its refusal may be weakened
pub told-weaker : {W : Type 0} (contents : W → Option (List ℕ)) (Is Then : Changed → Type 0) (Refuses Why' : CommandFault → Type 0)
    (Kept Kept' : Type 0) (old new : W) → ((made : Changed) → Is made → Then made) → ((why : CommandFault) → Refuses why → Why' why)
    → (Kept → Kept') → (r : Result ℕ CommandFault) → IsToldAs contents Is Refuses Kept old new r
    → IsToldAs contents Then Why' Kept' old new r
told-weaker contents Is Then Refuses Why' Kept Kept' old new f g k (Ok left) told = (told.0, f told.0 told.1, told.2, told.3)
told-weaker contents Is Then Refuses Why' Kept Kept' old new f g k (Err faults.Device) told = told
told-weaker contents Is Then Refuses Why' Kept Kept' old new f g k (Err faults.File) told =
    ⊎_elim (λ kept. inl (k kept.0, kept.1)) (λ made. inr (made.0, f made.0 made.1, made.2)) told
told-weaker contents Is Then Refuses Why' Kept Kept' old new f g k (Err _) told = (g _ told.0, told.1)
