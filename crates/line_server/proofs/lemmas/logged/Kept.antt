-- A disk in memory that is committed to a log.
use Rattle.std.proofs.Common.{◌≡◌, ◌∙◌, Bool, Err, List, Ok, Result, subst, sym}
use Rattle.std.specs.Prelude.{OnOk}
use Rattle.d64_image.specs.Images.{Image}
use Rattle.image_log.specs.ImageLogs.{IsCommitted, IsEither, LeavesImages, LogHistory}
use Rattle.image_log.specs.Marks.{Covers, NoneTouched}
use Rattle.image_log.specs.Touched.{touched_of}
use Rattle.line_server.specs.logged.Keeping.{IsKept}
use Rattle.line_server.specs.logged.Memory.{Memory, image_of}

module _ {L : Type 0} (h : LogHistory L) (disk : Memory) (before kept now : Image) (marked touched : List Bool)
    (old new : L) (is : now ≡ image_of disk) (marks : marked ≡ touched_of disk) where
  as_marked : Covers (touched_of disk) before (image_of disk) → Covers marked before now
  as_marked covers = subst (λ (m : List Bool). Covers m before now) (sym marks)
      (subst (λ (i : Image). Covers (touched_of disk) before i) (sym is) covers)

  pub kept_by : (E : Type 0) (result : Result Unit E) → (Covers marked before now → Covers touched before now)
      → (Covers marked before now → kept ≡ now) → (before ≡ now → NoneTouched touched)
      → IsCommitted h old new now touched result → IsKept h disk before kept old new result
  kept_by E result all brought none x = record {
    ok = ok_of result x.ok;
    any_moment = λ stands covers. subst (λ (i : Image). LeavesImages h old new (IsEither before i)) is
        (x.any_moment before stands (all (as_marked covers)));
    quiet = λ e. x.quiet (none (e ∙ sym is));
    over = x.err;
  }
    where
      ok_of : (r : Result Unit E)
          → OnOk r ((b : Image) → h.stands_for old b → Covers touched b now → h.stands_for new now)
          → OnOk r (Covers (touched_of disk) before (image_of disk)
          → (kept ≡ image_of disk) × (h.stands_for old before → h.stands_for new (image_of disk)))
      ok_of (Ok y) holds = λ covers. (
        brought (as_marked covers) ∙ is,
        λ stands. subst (h.stands_for new) is (holds before stands (all (as_marked covers))),
      )
      ok_of (Err e) holds = tt
