-- A file that is lent by a folder in memory, and closed.
use Rattle.std.proofs.Common.{◌≡◌, ◌≤◌, ◌+◌, ◌-◌, ◌⊎◌, ◌∙◌, ℕ, Bool, List, [], ◌∷◌, ap, arith, false, inl, inr, refl, subst, sym, true}
use Rattle.std.proofs.lemmas.Bool.{false≢true}
use Rattle.std.proofs.lemmas.Option.{none-some, same_Some}
use Rattle.std.specs.Prelude.{Err, IsErr, None, Ok, OnErr, OnOk, Option, Result, Some, if◌then◌else◌}
use Rattle.image_log.specs.Files.{Rests}
use Rattle.image_log.specs.Memory.{mem_bytes, memory}
use Rattle.image_log.specs.declared.mem_log.MemLog.{MemLog}
use Rattle.image_log.proofs.Remembered.{all_came}
use Rattle.image_log.specs.life.FolderCalls.{leaves, left_by, left_le, moments, none_failed, seen_after}
use Rattle.image_log.specs.life.Folders.{Folder, IsReturned, LeftOpen, LogOf, with_log}
use Rattle.image_log.specs.life.MemFolders.{first_of, folder_in_memory, held_of, lost_moments}
use Rattle.image_log.specs.declared.life.mem_folder.FolderCall.{FolderCall}
use Rattle.image_log.specs.declared.life.mem_folder.FolderCall.TheVariants.{Make, Name, Remove, Return, SyncImage, SyncNames, Write}
use Rattle.image_log.specs.declared.life.mem_folder.MemFolder.{MemFolder}

-- a power loss may leave all that was written to a file that didn't fail
file_came : (file : MemLog) → memory.has_failed file ≡ false → memory.may_leave file (mem_bytes file)
file_came file fine = subst (memory.may_leave file) (sym (file.seen fine)) (all_came file.first.items file.calls.items)

not_failed : (b c : Bool) → (if b then false else c) ≡ true → (b ≡ false) × (c ≡ true)
not_failed true c is = absurd (false≢true is)
not_failed false c is = (refl, is)

-- and all that was done
pub folder_came : (first : Folder) (calls : List FolderCall) → none_failed calls ≡ true → leaves first calls (seen_after first calls)
folder_came first [] fine = refl
folder_came first (Write index bytes ∷ e) fine = (
  seen_after first e,
  folder_came first e fine,
  record { log = refl; making = refl; sector = bytes; torn = record { size = λ is. sym is; each = λ j. inr refl }; image = refl },
)
folder_came first (SyncImage ∷ e) fine = (seen_after first e, folder_came first e fine, (refl, refl))
folder_came first (Make ∷ e) fine = (seen_after first e, folder_came first e fine, record { image = refl; log = refl })
folder_came first (Name bytes ∷ e) fine =
    (seen_after first e, folder_came first e fine, record { image = refl; is = inr (refl, λ fresh. refl) })
folder_came first (Remove ∷ e) fine = (seen_after first e, folder_came first e fine, inr refl)
folder_came first (SyncNames ∷ e) fine =
    (seen_after first e, folder_came first e fine, (refl, record { none = λ is. is; some = λ is. is; making = refl }))
folder_came first (Return lent file ∷ e) fine =
    let both = not_failed (memory.has_failed file) (none_failed e) fine in
    (seen_after first e, folder_came first e both.1, inr (mem_bytes file, file_came file both.0, refl))

at_err : {T E : Type 0} (P : Type 0) (r : Result T E) → IsErr r → OnOk r P
at_err P (Ok x) is = absurd (false≢true is)
at_err P (Err e) is = tt

from_err : {T E : Type 0} (P : Type 0) (r : Result T E) → P → OnErr r P
from_err P (Ok x) p = tt
from_err P (Err e) p = p

pub held_is : (o : Option MemLog) (x s : Folder) → held_of o x ≡ Some s → (o ≡ None) × (x ≡ s)
held_is None x s is = (refl, same_Some x s is)
held_is (Some file) x s is = absurd (none-some s is)

-- the moment rises where the first file is lost
pub first_lost : (m x lent : ℕ) (failed : Bool) (o : Option MemLog) → o ≡ None
    → m + (if failed then 1 + lost_moments o lent else 0) + 1 + x ≤ m + (1 + (1 + x))
first_lost m x lent true o none = rw none (omega arith)
first_lost m x lent false o none = omega arith

-- and doesn't fall afterwards
pub then_lost : (m more : ℕ) (failed : Bool) → m + (if failed then 1 + more else 0) ≤ m + (1 + more)
then_lost m more true = omega arith
then_lost m more false = omega arith

pub none_held : (o : Option MemLog) (file : MemLog) (x s : Folder) {P : Type 0} → o ≡ Some file → held_of o x ≡ Some s → P
none_held o file x s is held = absurd (none-some s (sym (ap (λ (l : Option MemLog). held_of l x) is) ∙ held))

-- it couldn't be kept that a file was closed
module _ {E : Type 0} (old new : MemFolder) (file : MemLog) (r : Result Unit E) (err : IsErr r)
    (firsts : first_of new ≡ first_of old) (calls : new.calls.items ≡ old.calls.items) (failed : new.failed ≡ true) where
  pub not_returned : folder_in_memory.moment old ≤ folder_in_memory.moment new
      → ((s : Folder) → folder_in_memory.held old ≡ Some s
      → folder_in_memory.moment old + 1 + (memory.moment file - old.lent) ≤ folder_in_memory.moment new)
      → IsReturned folder_in_memory memory old new file r
  not_returned later counted = record {
    held = at_err _ r err;
    outcomes = λ s may. absurd (false≢true (sym may.0 ∙ failed));
    later = later;
    counted = counted;
    since = λ t s le left. inl (inl (in_time t s (was t s left), was t s left));
    failures = record { failed = from_err _ r failed; passed = at_err _ r err };
    file_failures = λ is. failed;
  }
    where
      was : (t : ℕ) (s : Folder) → left_by (first_of new) new.calls.items t s → left_by (first_of old) old.calls.items t s
      was t s left = subst (λ (f : Folder). left_by f old.calls.items t s) firsts
          (subst (λ (c : List FolderCall). left_by (first_of new) c t s) calls left)

      in_time : (t : ℕ) (s : Folder) → left_by (first_of old) old.calls.items t s → t ≤ folder_in_memory.moment old
      in_time t s left =
          let le : t ≤ moments old.calls.items = left_le (first_of old) old.calls.items t s left in omega (arith, le)

-- and it was
module _ {E : Type 0} (old new : MemFolder) (file : MemLog) (r : Result Unit E) (firsts : first_of new ≡ first_of old)
    (calls : new.calls.items ≡ Return old.lent file ∷ old.calls.items) (lost : new.lost ≡ old.lost)
    (was_fine : old.failed ≡ false) (is_fine : new.failed ≡ false) (file_fine : memory.has_failed file ≡ false) where
  old_moment : folder_in_memory.moment old ≡ moments old.calls.items
  old_moment = rw was_fine (omega arith)

  new_moment : folder_in_memory.moment new ≡ moments old.calls.items + (1 + (memory.moment file - old.lent)) + 1
  new_moment = rw (is_fine, calls) (omega arith)

  back_held : (s : Folder) (f : List ℕ) → folder_in_memory.held old ≡ Some s → memory.held file ≡ Some f
      → folder_in_memory.held new ≡ Some (with_log f s)
  back_held s f held is =
      let parts = held_is old.lost (seen_after (first_of old) old.calls.items) s held in
      let whole : Some (with_log (mem_bytes file) (seen_after (first_of old) old.calls.items)) ≡ Some (with_log f s) =
      ap Some (ap (with_log (mem_bytes file)) parts.1 ∙ ap (λ (b : List ℕ). with_log b s) (same_Some (mem_bytes file) f is)) in
      subst (λ (o : Option MemLog). held_of o (seen_after (first_of new) new.calls.items) ≡ Some (with_log f s)) (sym (lost ∙ parts.0))
      (subst (λ (c : List FolderCall). Some (seen_after (first_of new) c) ≡ Some (with_log f s)) (sym calls)
      (subst (λ (x : Folder). Some (seen_after x (Return old.lent file ∷ old.calls.items)) ≡ Some (with_log f s)) (sym firsts) whole))

  pub returned : OnErr r (new.failed ≡ true) → OnOk r (new.failed ≡ old.failed) → IsReturned folder_in_memory memory old new file r
  returned failed passed = record {
    held = always r;
    outcomes = λ s may. let from = here s may.1 in (from.0, (was_fine, from.1), from.2);
    later = omega (arith, old_moment, new_moment);
    counted = λ s held. omega (arith, old_moment, new_moment);
    since = λ t s le left. since_then t s (by_names t s left);
    failures = record { failed = failed; passed = passed };
    file_failures = λ is. absurd (false≢true (sym file_fine ∙ is));
  }
    where
      always : (x : Result Unit E) → OnOk x ((s : Folder) (f : List ℕ) → folder_in_memory.held old ≡ Some s → memory.held file ≡ Some f
          → folder_in_memory.held new ≡ Some (with_log f s))
      always (Ok x) = back_held
      always (Err e) = tt

      here : (s : Folder) → leaves (first_of new) new.calls.items s → leaves (first_of old) (Return old.lent file ∷ old.calls.items) s
      here s left = subst (λ (f : Folder). leaves f (Return old.lent file ∷ old.calls.items) s) firsts
          (subst (λ (c : List FolderCall). leaves (first_of new) c s) calls left)

      back : (s : Folder) → leaves (first_of old) (Return old.lent file ∷ old.calls.items) s → leaves (first_of new) new.calls.items s
      back s left = subst (λ (c : List FolderCall). leaves (first_of new) c s) (sym calls)
          (subst (λ (f : Folder). leaves f (Return old.lent file ∷ old.calls.items) s) (sym firsts) left)

      by_names : (t : ℕ) (s : Folder) → left_by (first_of new) new.calls.items t s
          → left_by (first_of old) (Return old.lent file ∷ old.calls.items) t s
      by_names t s left = subst (λ (f : Folder). left_by f (Return old.lent file ∷ old.calls.items) t s) firsts
          (subst (λ (c : List FolderCall). left_by (first_of new) c t s) calls left)

      since_then : (t : ℕ) (s : Folder) → left_by (first_of old) (Return old.lent file ∷ old.calls.items) t s
          → LeftOpen folder_in_memory memory old file t (old.lent + (t - (folder_in_memory.moment old + 1))) s
          ⊎ folder_in_memory.may_leave new s
      since_then t s (inl before) =
          let le : t ≤ moments old.calls.items = left_le (first_of old) old.calls.items t s before in
          inl (inl (omega (arith, le, old_moment), before))
      since_then t s (inr (inl lent)) =
          let k : old.lent + (t - (moments old.calls.items + 1)) ≡ old.lent + (t - (folder_in_memory.moment old + 1)) =
          omega (arith, old_moment) in
          inl (inr (
            lent.1.0,
            (was_fine, lent.1.1),
            lent.1.2,
            subst (λ (j : ℕ). memory.left_since file j lent.1.2) k lent.1.3,
            lent.1.4,
          ))
      since_then t s (inr (inr now)) = inr (is_fine, back s now.1)

-- a log that is open is at rest
pub log_opened : (old : MemFolder) (log : List ℕ) (file : MemLog) (bytes : List ℕ) → old.failed ≡ false
    → (seen_after (first_of old) old.calls.items).log ≡ Some log → bytes ≡ log → Rests memory file bytes
    → none_failed old.calls.items ≡ true → LogOf folder_in_memory memory old file
log_opened old log file bytes unfailed is same rests fine = record {
  held = λ s f held there.
      let parts = held_is old.lost (seen_after (first_of old) old.calls.items) s held in
      rests.held ∙ ap Some (same ∙ same_Some log f (sym is ∙ ap (λ (x : Folder). x.log) parts.1 ∙ there));
  left = λ c may. (
    seen_after (first_of old) old.calls.items,
    (unfailed, folder_came (first_of old) old.calls.items fine),
    is ∙ ap Some (sym (rests.durable c may ∙ same)),
  );
}
