-- Runs over a file that is brought to the disk, once its sectors stand at their places.
use Rattle.std.proofs.Common.{◌≡◌, ◌≢◌, ◌∙◌, ◌⊎◌, ⊎_elim, ℕ, Bool, Err, List, Ok, Option, Some, ap}
use Rattle.std.proofs.Common.{false, refl, subst, sym, true}
use Rattle.std.specs.Prelude.{IfErr}
use Rattle.d64_image.specs.Images.{Image}
use Rattle.d64_image.specs.Keeps.{Keeps, none_kept}
use Rattle.host_session.specs.events.Telling.{Output}
use Rattle.image_file.specs.Durable.{AllStays}
use Rattle.image_file.specs.Lasting.{Whole, seen}
use Rattle.image_file.specs.LastingImages.{are_image, image_of}
use Rattle.image_file.specs.ImageFile.{IsLoaded, placed, placed_file}
use Rattle.shop_commands.specs.Plays.{IsFileFault, IsUntouched}
use Rattle.image_file.specs.declared.durability.WritesAt.{Ghosts}
use Rattle.command_faults.specs.declared.faults.CommandFault.{CommandFault}
use Rattle.command_faults.specs.declared.faults.CommandFault.TheVariants as faults
use Rattle.image_file.specs.declared.sectors.ImageFile.{ImageFile}
use Rattle.shop_jobs.specs.DurableRuns.{IsDurableRun, IsFinished}
use Rattle.opened_files.specs.Ends.{JobEnd}

-- what stays at the end is what was looked at
image_left : {F : Type 0} (held lasting : F → Option (List ℕ)) (W : Whole held) (sized : Bool) (f g : F) → held g ≡ held f
    → lasting g ≡ held g → (c : Image) → image_of ((seen W.lasting sized).bytes f) ≡ Some c
    → image_of (lasting g) ≡ Some c
image_left held lasting W true f g same stays c e =
    let x = are_image (W.lasting.bytes f) c e in
    ap image_of (stays ∙ same ∙ W.is_held f x.all x.are ∙ sym x.are) ∙ e
image_left held lasting W false f g same stays c e = none_kept e

module _ {F : Type 0} {G : Ghosts F} (image : List ℕ) (file after : F)
    (first left last : ImageFile F G) (end ended : JobEnd) (IsRun : ImageFile F G → ImageFile F G → JobEnd → Type 0) where
  -- whatever the run was, its file was taken up, brought to the disk and handed back
  pub durable_run : IsLoaded image file first → after ≡ placed_file last → IsRun first left end
      → IsFinished end left last ended → IsDurableRun image file after ended IsRun
  durable_run taken is_last run finished = record {
    first = first;
    left = left;
    last = last;
    taken = taken;
    end = end;
    run = run;
    finished = finished;
    is_after = sym is_last;
    counted = λ some. subst (λ f. G.has_failed f ≡ true) (sym is_last) (finished.failed (left.blamed some));
    holds = λ size now r.
        ap (λ b. image_of ((seen G.whole.lasting b).bytes now.file)) (r.sized ∙ taken.sized size);
    remains = subst
        (λ f. AllStays G.held G.lasting f → (c : Image) → placed.kept left ≡ Some c
        → image_of (G.lasting f) ≡ Some c)
        (sym is_last)
        (image_left G.held G.lasting G.whole left.sized left.file last.file finished.same);
  }

-- a fault that blames neither the file nor the output tells that nothing was done
module _ {F T : Type 0} (K : Keeps F) (o : Output T) (image script : List ℕ) (file after : F) (old new : T) where
  nothing_done : (fault : CommandFault) → IsFileFault K o image script file after old new fault → fault ≢ faults.File
      → fault ≢ faults.Device → IsUntouched file after old new
  nothing_done faults.ImageSize is _ _ = is.1
  nothing_done faults.NoMemory is _ _ = is.1
  nothing_done faults.File is other _ = absurd (other refl)
  nothing_done faults.Device is _ other = absurd (other refl)
  nothing_done _ is _ _ = is.2

  pub undone : (end : JobEnd) → IfErr end (IsFileFault K o image script file after old new)
      → IfErr end (λ fault. fault ≢ faults.File → fault ≢ faults.Device → IsUntouched file after old new)
  undone (Ok x) is = tt
  undone (Err fault) is = nothing_done fault is

-- what a run that did nothing left is what was handed in
module _ {F : Type 0} {G : Ghosts F} (file after : F) (first left last : ImageFile F G) (end ended : JobEnd)
    (is_file : placed_file first ≡ file) (is_last : after ≡ placed_file last)
    (told : (ended ≡ end) ⊎ (ended ≡ Err faults.Device))
    (alone : IfErr end (λ fault. fault ≢ faults.File → last ≡ left)) where
  handed_back : left ≡ first → last ≡ left → after ≡ file
  handed_back same left_alone = is_last ∙ ap placed_file (left_alone ∙ same) ∙ is_file

  module _ (Was Is : Type 0) (carry : last ≡ left → Was → Is) where
    at_end : (e : JobEnd) → IfErr e (λ fault. fault ≢ faults.File → last ≡ left)
        → IfErr e (λ fault. fault ≢ faults.File → fault ≢ faults.Device → Was)
        → IfErr e (λ fault. fault ≢ faults.File → fault ≢ faults.Device → Is)
    at_end (Ok x) left_alone was = tt
    at_end (Err fault) left_alone was = λ other another. carry (left_alone other) (was other another)

    pub left_so : IfErr end (λ fault. fault ≢ faults.File → fault ≢ faults.Device → Was)
        → IfErr ended (λ fault. fault ≢ faults.File → fault ≢ faults.Device → Is)
    left_so was = ⊎_elim
        (λ same. subst (λ e. IfErr e (λ fault. fault ≢ faults.File → fault ≢ faults.Device → Is)) (sym same)
        (at_end end alone was))
        (λ device. subst (λ e. IfErr e (λ fault. fault ≢ faults.File → fault ≢ faults.Device → Is)) (sym device)
        (λ other another. absurd (another refl)))
        told

  pub played_alone : {T : Type 0} (old new : T)
      → IfErr end (λ fault. fault ≢ faults.File → fault ≢ faults.Device → IsUntouched first left old new)
      → IfErr ended (λ fault. fault ≢ faults.File → fault ≢ faults.Device → IsUntouched file after old new)
  played_alone old new = left_so (IsUntouched first left old new) (IsUntouched file after old new)
      (λ left_alone x. (handed_back x.0 left_alone, x.1))
