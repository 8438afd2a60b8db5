-- The map, then the side sectors, then the block counts.
use Rattle.std.proofs.Common.{Err, ◌∙◌, ◌+◌, ◌*◌, arith, length}
use Rattle.std.proofs.lemmas.Result.{err_from_is_err_and, on_ok_weaker}
use Rattle.d64_image.proofs.Moments.{at_end, no_write_then}
use Rattle.layout_check.proofs.lemmas.mending.MapMends.{device_later, mends_then}
use Rattle.layout_check.specs.Reads.{owned_by}
use Rattle.layout_check.specs.RepairOrder.{IsRight, IsRightBut, sides_of}
use Rattle.layout_check.proofs.lemmas.repairing.MakesRights.{sides_exact, sides_layouts, sides_map, sides_mend}
use Rattle.layout_check.proofs.lemmas.repairing.RightWrites.{directory_right}
use Rattle.layout_check.proofs.lemmas.repairing.SidesMade.{exact-right}
use Rattle.layout_check.proofs.lemmas.repairing.OwnedSums.{length-owners}
use Rattle.layout_check.proofs.lemmas.repairing.RepairReads.{few_after}
use Rattle.layout_check.proofs.lemmas.repairing.RepairOrder.{layout_at, made_all, order_all, order_map, order_sides, spare_counts}
use Rattle.layout_check.proofs.lemmas.repairing.RepairOrder.{spare_sides}
use Rattle.layout_check.proofs.lemmas.repairing.RepairRuns.{counts-at, counts_mend, mends_from, repaired}
use Rattle.layout_check.proofs.lemmas.repairing.RepairRuns.{sides-at}
use Rattle.layout_check.proofs.lemmas.repairing.Repairs.{clean-map}
use Rattle.layout_check.proofs.lemmas.repairing.Rights.{directory-not_map, side-not_map}
use Rattle.layout_check.proofs.lemmas.repairing.Strays.{puts_right_but}
use Rattle.layout_check.proofs.repairing.mend.Goals as goal

-- the disk stays sound
pub mend_entries-requires : goal.mend_entries-requires
mend_entries-requires g c = let (l, strays, is, marks, numbers) = c.requires in
    (l, (c.in_ok-mend_map.ensures l strays is marks).mending.layouts l is)

pub mend_counts-requires : goal.mend_counts-requires
mend_counts-requires g c = let (l, strays, is, marks, numbers) = c.requires in (
  l,
  sides_layouts g.D.Sectors.history c.mend_map.new.disk c.mend_entries.new.disk c.in_ok-mend_entries.ensures.right l
      ((c.in_ok-mend_map.ensures l strays is marks).mending.layouts l is),
  numbers,
)

pub returns-in_err-mend_map : goal.returns-in_err-mend_map
returns-in_err-mend_map g c l strays is marks =
    let map = c.mend_map.ensures l strays is marks in
    let p = err_from_is_err_and c.from_residual.result c.from_residual.ensures.1 in
    record {
      clean = rw p.1 tt;
      moments = mends_from g.D.Sectors.history _ _ 1 (omega arith) map.mending.mends;
      order = λ m also. order_map g.D.Sectors.history (IsRightBut strays m) m _ _ (map.right m also).over;
      made = λ m also. rw p.1 tt;
      spare = map.spare;
      failures = rw (p.1, p.2) (c.in_err-mend_map.ensures l strays is marks).mending.failures;
      quiet = λ m clean. map.quiet (clean-map strays _ m clean);
      reads = λ m also. record { ok = rw p.1 tt; any = omega (arith, map.reads) };
    }

pub returns-in_err-mend_entries : goal.returns-in_err-mend_entries
returns-in_err-mend_entries g c l strays is marks =
    let map = c.mend_map.ensures l strays is marks in
    let mapped = c.in_ok-mend_map.ensures l strays is marks in
    let S = g.D.Sectors.history in
    let p = err_from_is_err_and c.from_residual-in_err-mend_entries.result
    c.from_residual-in_err-mend_entries.ensures.1 in
    record {
      clean = rw p.1 tt;
      moments = mends_from S _ _ 865 (omega arith) (mends_then S _ _ _ 1 864 865 (omega arith)
          map.mending.mends (sides_mend S c.mend_map.new.disk c.mend_entries.new.disk c.mend_entries.result c.mend_entries.ensures.right));
      order = λ m also.
          let after_map = mapped.mending.layouts m also in
          order_sides S (IsRightBut strays m) m _ _ _ also (map.right m also).over (mapped.right m also).made
          (puts_right_but strays m (sides_of m.files) (side-not_map _ m also) S _ _ c.mend_entries.result
          (c.mend_entries.ensures.right m after_map).puts).over;
      made = λ m also. rw p.1 tt;
      spare = let after_map = mapped.mending.layouts l is in
          spare_sides S (IsRight l) l _ _ _ after_map map.spare (c.mend_entries.ensures.right l after_map).puts.over;
      failures = rw (p.1, p.2) (device_later S (Unit {0}) c.args.disk.now c.mend_map.new.disk c.mend_entries.new.disk
          (Err _) mapped.mending.failures c.in_err-mend_entries.ensures.failures);
      quiet = λ m clean.
          let first = map.quiet (clean-map strays _ m clean) in
          no_write_then S _ _ _ first ((c.mend_entries.ensures.right m (layout_at _ _ m first.image clean.layout)).quiet
          (exact-right _ m (layout_at _ _ m first.image clean.layout) (sides-at strays _ _ m first.image clean)));
      reads = λ m also. record {
        ok = rw p.1 tt;
        any = omega (
          arith,
          map.reads,
          (c.in_err-mend_entries.ensures.reads m (mapped.mending.layouts m also)).any,
          length-owners m,
        );
      };
    }

pub returns : goal.returns
returns g c l strays is marks =
    let map = c.mend_map.ensures l strays is marks in
    let mapped = c.in_ok-mend_map.ensures l strays is marks in
    let S = g.D.Sectors.history in
    let first = c.args.disk.now in
    let last = c.mend_counts.new.disk in
    let kept = sides_layouts S c.mend_map.new.disk c.mend_entries.new.disk c.in_ok-mend_entries.ensures.right in
    let mends = mends_then S first c.mend_entries.new.disk last 865 18 883 (omega arith)
    (mends_then S first c.mend_map.new.disk c.mend_entries.new.disk 1 864 865 (omega arith)
    map.mending.mends (sides_mend S c.mend_map.new.disk c.mend_entries.new.disk c.mend_entries.result c.mend_entries.ensures.right))
    (counts_mend S c.mend_entries.new.disk last c.mend_counts.ensures.moments) in
    record {
      clean = on_ok_weaker c.mend_counts.result
          (repaired strays (S.image c.args.disk.now) (S.image c.mend_map.new.disk) (S.image c.mend_entries.new.disk)
          (S.image c.mend_counts.new.disk) l is
          mapped.map mapped.mending.layouts
          kept (sides_map S c.mend_map.new.disk c.mend_entries.new.disk c.in_ok-mend_entries.ensures.right l (mapped.mending.layouts l is))
          (sides_exact S c.mend_map.new.disk c.mend_entries.new.disk c.in_ok-mend_entries.ensures.right)
          (at_end S _ _ _ c.mend_counts.ensures.moments.held)
          (λ m also. at_end S _ _ _ (mends_from S first last 883 (omega arith) mends m also).held))
          c.mend_counts.ensures.counted;
      moments = mends_from S first last 883 (omega arith) mends;
      order = λ m also.
          let after_map = mapped.mending.layouts m also in
          let after_sides = kept m after_map in
          let sides = puts_right_but strays m (sides_of m.files) (side-not_map _ m also) S _ _ _
          (c.in_ok-mend_entries.ensures.right m after_map).puts in
          let counts = puts_right_but strays m m.directory (directory-not_map _ m also) S _ _ c.mend_counts.result
          (c.mend_counts.ensures.right m after_sides).puts in
          order_all S (IsRightBut strays m) m _ _ _ _ also (map.right m also).over (mapped.right m also).made
          sides.over sides.made counts.over;
      made = λ m also.
          let after_map = mapped.mending.layouts m also in
          let after_sides = kept m after_map in
          on_ok_weaker c.mend_counts.result (λ counted. made_all (IsRightBut strays m) m _ _ _ _ also
          (mapped.right m also).made
          (puts_right_but strays m (sides_of m.files) (side-not_map _ m also) S _ _ _
          (c.in_ok-mend_entries.ensures.right m after_map).puts).made
          counted)
          (puts_right_but strays m m.directory (directory-not_map _ m also) S _ _ c.mend_counts.result
          (c.mend_counts.ensures.right m after_sides).puts).made;
      spare = let after_map = mapped.mending.layouts l is in
          let after_sides = kept l after_map in
          spare_counts S (IsRight l) l _ _ _ after_sides
          (spare_sides S (IsRight l) l _ _ _ after_map map.spare (c.mend_entries.ensures.right l after_map).puts.over)
          (c.mend_counts.ensures.right l after_sides).puts.over;
      failures = device_later g.D.Sectors.history (Unit {0}) c.args.disk.now c.mend_entries.new.disk
          c.mend_counts.new.disk c.mend_counts.result
          (c.in_ok-mend_entries.ensures.failures ∙ mapped.mending.failures)
          c.mend_counts.ensures.failures;
      quiet = λ m clean.
          let first = map.quiet (clean-map strays _ m clean) in
          let now = layout_at _ _ m first.image clean.layout in
          let second = (c.mend_entries.ensures.right m now).quiet
          (exact-right _ m now (sides-at strays _ _ m first.image clean)) in
          no_write_then S _ _ _ (no_write_then S _ _ _ first second)
          ((c.mend_counts.ensures.right m (kept m now)).quiet (directory_right S _ m (kept m now)
          (counts-at strays _ _ m (second.image ∙ first.image) clean)));
      reads = λ m also.
          let after_map = mapped.mending.layouts m also in
          few_after S first c.mend_entries.new.disk last (19 + 3 * owned_by m.files) (2 * length m.directory) _
          c.mend_counts.result (omega (arith, length-owners m))
          (omega (arith, map.reads, (c.in_ok-mend_entries.ensures.reads m after_map).ok))
          (c.mend_counts.ensures.reads m (kept m after_map));
    }
