-- What comes of rebuilding the side sectors of a disk.
use Rattle.std.proofs.Common.{◌≡◌, ◌⊎◌, ℕ, List, Option, Result, Ok, Err, inl, inr, length, refl, subst, sym}
use Rattle.std.proofs.lemmas.Result.{on_err_weaker}
use Rattle.std.specs.Io.KnownBytes.{Appends}
use Rattle.std.specs.Prelude.{IfErr, OnErr, OnOk}
use Rattle.d64_image.proofs.Moments.{at_end, failed_later, no_write, then, weaker}
use Rattle.d64_image.specs.History.{History, WritesNothing}
use Rattle.d64_image.specs.Images.{Image, sector}
use Rattle.disk_layout.specs.Directory.{map_place}
use Rattle.disk_layout.specs.Fault.{Holds, nowhere}
use Rattle.disk_layout.specs.declared.faults.Fault.{Fault}
use Rattle.disk_layout.specs.declared.faults.Fault.TheVariants as faults
use Rattle.command_faults.specs.Faults.{IsLoadFault}
use Rattle.disk_changes.specs.mended.Kinds.{IsKindFault, IsPlainDisk}
use Rattle.disk_changes.specs.mended.Rebuilds.{IsRebuildDone, IsRebuildFault, IsRebuildPart, IsRebuildRun, IsRebuiltDisk}
use Rattle.command_faults.specs.Outputs.{HandsPart}
use Rattle.disk_changes.specs.mended.Repairs.{TellsKeep, changed_text, repair_fault}
use Rattle.command_faults.specs.declared.faults.CommandFault.{CommandFault}
use Rattle.damaged_files.specs.sides.Rebuilt.{IsRebuilt, IsUnderRebuilding, RebuildsSides, RefusesSides}
use Rattle.command_faults.proofs.Loads.{by-load}
use Rattle.disk_changes.proofs.lemmas.mended.OtherKinds.{by-kind}
use Rattle.disk_changes.proofs.lemmas.mended.Mendings.{by-tell}

module _ {D : Type 0} (S : History D) (image : List ℕ) (a : D) where
  module _ {W : Type 0} (w : W) where
    -- the image wasn't taken into memory
    pub load-unrebuilt : (fault : CommandFault) → IsLoadFault image fault → IsRebuildFault S image a a w w fault
    load-unrebuilt = by-load image (IsRebuildFault S image a a w w)
        (λ told. (told, refl, refl)) (λ told. (told, refl, refl))

    -- the disk is of another kind
    pub kind-unrebuilt : (fault : CommandFault) → length image ≡ 174848 → IsKindFault (sector (S.image a) map_place) fault
        → IsRebuildFault S image a a w w fault
    kind-unrebuilt fault size told = by-kind (sector (S.image a) map_place) (IsRebuildFault S image a a w w)
        (λ told. (size, told, refl, refl)) (λ told. (size, told, refl, refl)) fault told

  module _ (size : length image ≡ 174848) (plain : IsPlainDisk (sector (S.image a) map_place)) (b : D)
      (r : Result (Unit {0}) Fault) (h : RebuildsSides S a b r) where
    run-rebuilt : IsRebuildRun S image a b
    run-rebuilt = record {
      size = size;
      plain = plain;
      moments = h.moments;
      quiet = λ sound. subst (λ (d : D). WritesNothing S a d) (sym (h.quiet sound)) (no_write S a);
    }

    -- a fault that holds, and then nothing was written; or the device failed
    left : {W : Type 0} (w : W) (fault : Fault) → (b ≡ a) × Holds nowhere (S.image a) fault
        → IsRebuildFault S image a b w w (repair_fault fault)
    left w (faults.BadLink p) (same, holds) = (size, plain, holds, same, refl)
    left w (faults.Loop p) (same, holds) = (size, plain, holds, same, refl)
    left w (faults.OwnedTwice p) (same, holds) = (size, plain, holds, same, refl)
    left w (faults.BadType p) (same, holds) = (size, plain, holds, same, refl)
    left w (faults.Unclosed p) (same, holds) = (size, plain, holds, same, refl)
    left w (faults.BadSide p) (same, holds) = (size, plain, holds, same, refl)
    left w (faults.BadLength p) (same, holds) = (size, plain, holds, same, refl)
    left w _ (same, holds) = absurd holds

    pub unrebuilt : {W : Type 0} (w : W) (fault : Fault) → RefusesSides S a b (Err fault)
        → IsRebuildFault S image a b w w (repair_fault fault)
    unrebuilt w fault (inl refused) = left w fault refused
    unrebuilt w fault (inr (failed, (p, is, there))) =
        subst (λ (f : Fault). IsRebuildFault S image a b w w (repair_fault f)) (sym is) (run-rebuilt, failed)

    -- and then the lines were printed
    pub rebuilt-quiet : IsRebuilt (S.image a) (S.image b) → (c : D) → WritesNothing S b c → IsRebuiltDisk S image a c
    rebuilt-quiet rebuilt c quiet = record {
      run = record {
        size = size;
        plain = plain;
        moments = then S a b c P h.moments (weaker S b c (λ i. i ≡ S.image b) P
            (λ i e. subst P (sym e) (at_end S a b P h.moments)) quiet.held);
        quiet = λ sound. subst (λ (d : D). WritesNothing S d c) (h.quiet sound) quiet;
      };
      rebuilt = subst (λ (img : Image). IsRebuilt (S.image a) img) (sym quiet.image) rebuilt;
    }
      where
        P : Image → Type 0
        P i = (i ≡ S.image a) ⊎ IsUnderRebuilding (S.image a) i

    pub print-unrebuilt : {W : Type 0} (v w : W) → IsRebuilt (S.image a) (S.image b) → S.failures b ≡ S.failures a
        → (c : D) → WritesNothing S b c → (end : Result (Unit {0}) CommandFault) → TellsKeep S b c end
        → IfErr end (IsRebuildFault S image a c v w)
    print-unrebuilt v w rebuilt same c quiet (Ok x) told = tt
    print-unrebuilt v w rebuilt same c quiet (Err fault) told = by-tell S b c (IsRebuildFault S image a c v w)
        (λ told. rebuilt-quiet rebuilt c quiet)
        (λ told. ((rebuilt-quiet rebuilt c quiet).run, failed_later S a b c same told)) fault told

    -- what was printed is of the disk as it is left
    pub done-rebuilt : {W : Type 0} (contents : W → Option (List ℕ)) (v w : W) → IsRebuilt (S.image a) (S.image b)
        → (c : D) → WritesNothing S b c → (before : Image) → before ≡ S.image a → (end : Result (Unit {0}) CommandFault)
        → OnOk end (Appends (contents v) (contents w) (changed_text before (S.image b)))
        → OnOk end (IsRebuildDone S contents image a c v w)
    done-rebuilt contents v w rebuilt c quiet before same (Ok x) printed = record {
      disk = rebuilt-quiet rebuilt c quiet;
      printed = subst (λ (img : Image). Appends (contents v) (contents w) (changed_text (S.image a) img))
          (sym quiet.image) (subst (λ (img : Image). Appends (contents v) (contents w) (changed_text img (S.image b)))
          same printed);
    }
    done-rebuilt contents v w rebuilt c quiet before same (Err fault) printed = tt

    pub rebuild-part : {W : Type 0} (contents : W → Option (List ℕ)) (v w : W) → IsRebuilt (S.image a) (S.image b)
        → (c : D) → WritesNothing S b c → (before : Image) → before ≡ S.image a → (end : Result (Unit {0}) CommandFault)
        → OnErr end (HandsPart (contents v) (contents w) (changed_text before (S.image b)))
        → OnErr end (IsRebuildPart S contents image a c v w)
    rebuild-part contents v w rebuilt c quiet before same end part = on_err_weaker end
        (λ part. inr (
          rebuilt-quiet rebuilt c quiet,
          subst (λ (img : Image). HandsPart (contents v) (contents w) (changed_text (S.image a) img)) (sym quiet.image)
              (subst (λ (img : Image). HandsPart (contents v) (contents w) (changed_text img (S.image b))) same part),
        )) part
