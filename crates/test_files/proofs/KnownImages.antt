-- The image in a folder in memory turned into what was made of it.
use Rattle.std.proofs.Common.{◌≡◌, ◌∙◌, [], ℕ, List, ap, length}
use Rattle.std.proofs.lemmas.List.{set-get_or}
use Rattle.std.specs.Prelude.{Bool, Err, IfOk, IfSome, IsSome, None, Ok, OnOk, Option, Result, slice_index_or, slice_set, ⊤}
use Rattle.command_faults.specs.declared.faults.CommandFault.{CommandFault}
use Rattle.d64_image.specs.Images.{Image}
use Rattle.d64_image.specs.Memory.{disk_image, sectors_in}
use Rattle.disk_changes.specs.Changes.{IsChanged, IsRefused}
use Rattle.disk_changes.specs.declared.changes.Change.{Change}
use Rattle.disk_changes.specs.declared.changes.Changed.{Changed}
use Rattle.folder_changes.proofs.Changed.{sized, told-weaker}
use Rattle.folder_changes.specs.FolderChanges.{HasNotBegun, IsLeft, IsMade, IsToldAs}
use Rattle.image_log.specs.declared.life.mem_folder.MemFolder.{MemFolder}
use Rattle.image_log.specs.life.Bringing.{RestsAlone, RestsWith}
use Rattle.image_log.specs.life.Folders.{LeavesFolders}
use Rattle.image_log.specs.life.MemFolders.{folder_in_memory}
use Rattle.image_log.specs.life.Replacing.{KeepsOrGives}
use Rattle.image_log.specs.life.Tags.{SaysLogAway, untagged_image}
use Rattle.image_log.specs.life.Untagged.{untagged_in}
use Rattle.image_log.proofs.lemmas.life.Tagged.{none_off}
use Rattle.test_files.proofs.KnownFolders.{rests, turned}
use Rattle.test_files.specs.KnownFolders.{HasTurned, IsChangedIn, IsReplacedIn, folder_in}

-- an image that doesn't say that its log is away has no tag
pub none_there : (image : List ℕ) → length image ≡ 174848 → (SaysLogAway image → ⊥)
    → untagged_image (sectors_in image) ≡ sectors_in image
none_there image size not =
    ap (slice_set (sectors_in image) 357) (none_off (slice_index_or (sectors_in image) 357 []) (λ is. not (size, is)))
    ∙ set-get_or (sectors_in image) 357 []

module _ {E D : Type 0} (inner : E → D) (failed : E → Bool) (of : D → Option MemFolder) (IsAt : E → Type 0) (found : Option MemFolder)
    (at : (d : E) → IsAt d → of (inner d) ≡ found) (image : List ℕ) (not : SaysLogAway image → ⊥)
    (there : IfSome found (λ m. RestsAlone folder_in_memory m (sectors_in image))) where
  pub changed : {W X : Type 0} (contents : W → Option (List ℕ)) (what : Change) (before after : W)
      → (length image ≡ 174848 → IsSome found) → (r : Result (Result ℕ CommandFault) X)
      → IfOk r (IsChangedIn (untagged_in inner failed (folder_in of)) IsAt what image contents before after)
      → IfOk r (IsToldAs contents (λ made. IsChanged what image made × HasTurned (sectors_in image) (disk_image made.disk)) (IsRefused what image)
      ⊤ before after)
  changed contents what before after some (Err e) is = is
  changed contents what before after some (Ok ended) (old, new, is, told) =
      told-weaker contents (IsMade (untagged_in inner failed (folder_in of)) what image old new)
      (λ (made : Changed). IsChanged what image made × HasTurned (sectors_in image) (disk_image made.disk))
      (IsLeft (untagged_in inner failed (folder_in of)) what image old new) (IsRefused what image)
      (HasNotBegun (untagged_in inner failed (folder_in of)) image old new) ⊤ before after
      (λ made m.
      let size = sized what image made m.0 in
      let was = rests inner failed of old found (sectors_in image) (none_there image size not) (at old is) (some size) there in
      let gone = m.1 was in
      (m.0, turned inner failed of old new (sectors_in image) (disk_image made.disk) was gone.0 gone.1))
      (λ why left. left.0) (λ kept. tt) ended told

  done : (other : List ℕ) (old new : E) → IsAt old → IsSome found → length image ≡ 174848
      → ((log : Option (List ℕ)) (before : Image) → RestsWith (untagged_in inner failed (folder_in of)) old log before
      → LeavesFolders (untagged_in inner failed (folder_in of)) old new (KeepsOrGives log before (sectors_in other))) → (ended : Result Unit CommandFault)
      → OnOk ended ((log : Option (List ℕ)) (before : Image) → RestsWith (untagged_in inner failed (folder_in of)) old log before
      → RestsAlone (untagged_in inner failed (folder_in of)) new (sectors_in other)) → OnOk ended (HasTurned (sectors_in image) (sectors_in other))
  done other old new is some size moments (Err e) ok = tt
  done other old new is some size moments (Ok x) ok =
      let was = rests inner failed of old found (sectors_in image) (none_there image size not) (at old is) some there in
      turned inner failed of old new (sectors_in image) (sectors_in other) was (ok None (sectors_in image) was)
      (moments None (sectors_in image) was)

  pub replaced : {X : Type 0} (other : List ℕ) → IsSome found → length image ≡ 174848 → (r : Result (Result Unit CommandFault) X)
      → IfOk r (IsReplacedIn (untagged_in inner failed (folder_in of)) IsAt other) → IfOk r (λ ended. OnOk ended (HasTurned (sectors_in image) (sectors_in other)))
  replaced other some size (Err e) is = is
  replaced other some size (Ok ended) (old, new, is, moments, ok) = done other old new is some size moments ended ok
