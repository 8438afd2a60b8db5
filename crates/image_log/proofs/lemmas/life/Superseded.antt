-- A folder whose image and log are superseded: it is read, and the image is replaced.
use Rattle.std.proofs.Common.{◌≡◌, ℕ, List, inl, subst, sym}
use Rattle.std.specs.Prelude.{Option, Some}
use Rattle.d64_image.specs.Images.{Image}
use Rattle.image_log.specs.life.Bringing.{RestsWith}
use Rattle.image_log.specs.life.Folders.{Folder, FolderHistory, LeavesFolders}
use Rattle.image_log.specs.life.Replacing.{KeepsOrGives}
use Rattle.image_log.proofs.lemmas.life.Steps.{joined, weaker}

module _ {D : Type 0} (h : FolderHistory D) where
  -- a call that changes nothing
  pub rests_on : (old new : D) (log : Option (List ℕ)) (before : Image) → RestsWith h old log before
      → ((s : Folder) → h.held old ≡ Some s → h.held new ≡ Some s)
      → ((s : Folder) → h.may_leave new s → h.may_leave old s) → RestsWith h new log before
  rests_on old new log before rests held outcomes = record {
    some = rests.some;
    held = held rests.some rests.held;
    is = rests.is;
    left = λ o may. rests.left o (outcomes o may);
  }

  module _ (old mid : D) (log : Option (List ℕ)) (before shop : Image) (rests : RestsWith h old log before)
      (finding : LeavesFolders h old mid (h.may_leave old)) where
    pub found_moments : LeavesFolders h old mid (KeepsOrGives log before shop)
    found_moments = weaker h old mid (h.may_leave old) (KeepsOrGives log before shop) (λ s may. inl (rests.left s may)) finding

    pub superseded : (new : D) (now : Image) → RestsWith h mid log before × (now ≡ before)
        → (RestsWith h mid log now → LeavesFolders h mid new (KeepsOrGives log now shop))
        → LeavesFolders h old new (KeepsOrGives log before shop)
    superseded new now found replacing = joined h old mid new (KeepsOrGives log before shop) found_moments
        (subst (λ (i : Image). LeavesFolders h mid new (KeepsOrGives log i shop)) found.1
        (replacing (subst (RestsWith h mid log) (sym found.1) found.0)))
