-- What a folder in memory does, what has it does.
use Rattle.std.proofs.Common.{◌≡◌, ◌∙◌, ap, subst, sym}
use Rattle.std.proofs.lemmas.Bool.{false≢true}
use Rattle.std.proofs.lemmas.Option.{none-some}
use Rattle.std.specs.Prelude.{Bool, IfSome, IsSome, None, Option, Result, Some, false, option_map}
use Rattle.d64_image.specs.Images.{Image}
use Rattle.image_log.specs.declared.life.mem_folder.MemFolder.{MemFolder}
use Rattle.image_log.specs.life.Bringing.{RestsAlone}
use Rattle.image_log.specs.life.Folders.{Acts, Brings, Folder, FolderHistory, IsGivenUp, LeavesFolders}
use Rattle.image_log.specs.life.MemFolders.{folder_in_memory}
use Rattle.image_log.specs.life.Replacing.{KeepsOrGives}
use Rattle.image_log.specs.life.Tags.{untagged_image}
use Rattle.image_log.specs.life.Untagged.{untagged_folder, untagged_in}
use Rattle.test_files.specs.KnownFolders.{HasTurned, folder_in, held_in}

-- what such a folder holds, if it is that one
pub held-there : (folder : Option MemFolder) (m : MemFolder) (s : Folder) → folder ≡ Some m → held_in folder ≡ Some s
    → folder_in_memory.held m ≡ Some s
held-there folder m s is held = subst (λ (o : Option MemFolder). held_in o ≡ Some s) is held

-- of a folder that may be there, alone
abbrev maybe : FolderHistory (Option MemFolder)
maybe = folder_in (λ o. o)

-- what is so of two folders that are there is so where they are found
between : (P : Option MemFolder → Option MemFolder → Type 0) (m n : MemFolder) (old new : Option MemFolder) → old ≡ Some m
    → new ≡ Some n → P (Some m) (Some n) → P old new
between P m n old new is to p = subst (λ (x : Option MemFolder). P x new) (sym is)
    (subst (λ (y : Option MemFolder). P (Some m) y) (sym to) p)

module _ {E : Type 0} (old new : E) (of : E → Option MemFolder) (m n : MemFolder) (is : of old ≡ Some m) (to : of new ≡ Some n) where
  pub acts : {T X : Type 0} (go : Folder → Folder) (step : Folder → Folder → Type 0) (r : Result T X)
      → Acts folder_in_memory m n go step r → Acts (folder_in of) old new go step r
  acts {T} {X} go step r there =
      let alone : Acts maybe (Some m) (Some n) go step r = record {
        ok = there.ok;
        outcomes = there.outcomes;
        time = record { later = there.time.later; nothing_else = there.time.nothing_else };
        failures = record { failed = there.failures.failed; passed = there.failures.passed };
      } in
      let a = between (λ x y. Acts maybe x y go step r) m n (of old) (of new) is to alone in
      record {
        ok = a.ok;
        outcomes = a.outcomes;
        time = record { later = a.time.later; nothing_else = a.time.nothing_else };
        failures = record { failed = a.failures.failed; passed = a.failures.passed };
      }

  pub brings : {X : Type 0} (P : Folder → Folder → Type 0) (r : Result Unit X) → Brings folder_in_memory m n P r
      → Brings (folder_in of) old new P r
  brings {X} P r there =
      let alone : Brings maybe (Some m) (Some n) P r = record {
        held = there.held;
        lent = there.lent;
        ok = there.ok;
        outcomes = there.outcomes;
        time = record { later = there.time.later; nothing_else = there.time.nothing_else };
        failures = record { failed = there.failures.failed; passed = there.failures.passed };
      } in
      let a = between (λ x y. Brings maybe x y P r) m n (of old) (of new) is to alone in
      record {
        held = a.held;
        lent = a.lent;
        ok = a.ok;
        outcomes = a.outcomes;
        time = record { later = a.time.later; nothing_else = a.time.nothing_else };
        failures = record { failed = a.failures.failed; passed = a.failures.passed };
      }

  pub given_up : (failed : Bool) → IsGivenUp folder_in_memory m n failed → IsGivenUp (folder_in of) old new failed
  given_up failed there =
      let alone : IsGivenUp maybe (Some m) (Some n) failed = record {
        held = there.held;
        outcomes = there.outcomes;
        time = record { later = there.time.later; nothing_else = there.time.nothing_else };
        failed = there.failed;
        passed = there.passed;
      } in
      let a = between (λ x y. IsGivenUp maybe x y failed) m n (of old) (of new) is to alone in
      record {
        held = a.held;
        outcomes = a.outcomes;
        time = record { later = a.time.later; nothing_else = a.time.nothing_else };
        failed = a.failed;
        passed = a.passed;
      }

-- a folder that is there rests where it is found
rests-in : (o : Option MemFolder) (image : Image) → IsSome o → IfSome o (λ m. RestsAlone folder_in_memory m image)
    → RestsAlone maybe o image
rests-in None image some rests = absurd (false≢true some)
rests-in (Some m) image some rests = record { some = rests.some; held = rests.held; is = rests.is; left = rests.left }

-- without the tag, where the image has none
untagged : {E D : Type 0} (inner : E → D) (failed : E → Bool) (h : FolderHistory D) (e : E) (image : Image) → untagged_image image ≡ image
    → RestsAlone h (inner e) image → RestsAlone (untagged_in inner failed h) e image
untagged inner failed h e image none rests = record {
  some = untagged_folder rests.some;
  held = ap (option_map untagged_folder) rests.held;
  is = (ap untagged_image rests.is.0 ∙ none, rests.is.1);
  left = λ s may.
      let is = rests.left may.0 may.1 in (
        ap (λ (t : Folder). t.image) may.2 ∙ ap untagged_image is.0 ∙ none,
        ap (λ (t : Folder). t.log) may.2 ∙ is.1,
      );
}

pub rests : {E D : Type 0} (inner : E → D) (failed : E → Bool) (of : D → Option MemFolder) (e : E) (found : Option MemFolder) (image : Image)
    → untagged_image image ≡ image → of (inner e) ≡ found → IsSome found
    → IfSome found (λ m. RestsAlone folder_in_memory m image) → RestsAlone (untagged_in inner failed (folder_in of)) e image
rests inner failed of e found image none is some there =
    let r : RestsAlone maybe (of (inner e)) image = subst (λ (o : Option MemFolder). RestsAlone maybe o image) (sym is)
    (rests-in found image some there) in
    untagged inner failed (folder_in of) e image none (record { some = r.some; held = r.held; is = r.is; left = r.left })

-- the same of one that may be there
abbrev told : FolderHistory (Option MemFolder)
told = untagged_in (λ o. o) (λ o. false) maybe

turned-in : (o p : Option MemFolder) (before after : Image) → RestsAlone told o before → RestsAlone told p after
    → LeavesFolders told o p (KeepsOrGives None before after) → HasTurned before after
turned-in None p before after was is moments = absurd (none-some was.some was.held)
turned-in (Some m) None before after was is moments = absurd (none-some is.some is.held)
turned-in (Some m) (Some n) before after was is moments = (
  m,
  n,
  record { some = was.some; held = was.held; is = was.is; left = was.left },
  record { some = is.some; held = is.held; is = is.is; left = is.left },
  record { later = moments.later; each = moments.each; before = moments.before },
)

-- and so one went there that is found to have gone
pub turned : {E D : Type 0} (inner : E → D) (failed : E → Bool) (of : D → Option MemFolder) (old new : E) (before after : Image)
    → RestsAlone (untagged_in inner failed (folder_in of)) old before → RestsAlone (untagged_in inner failed (folder_in of)) new after
    → LeavesFolders (untagged_in inner failed (folder_in of)) old new (KeepsOrGives None before after) → HasTurned before after
turned inner failed of old new before after was is moments = turned-in (of (inner old)) (of (inner new)) before after
    (record { some = was.some; held = was.held; is = was.is; left = was.left })
    (record { some = is.some; held = is.held; is = is.is; left = is.left })
    (record { later = moments.later; each = moments.each; before = moments.before })
