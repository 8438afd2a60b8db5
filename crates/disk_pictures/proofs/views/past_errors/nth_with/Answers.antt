-- The entry is looked for, or passed, or hasn't the sector.
use Rattle.std.proofs.Common.{ap, arith, map, drop, sym, ◌+◌, ◌∙◌}
use Rattle.std.specs.Prelude.{slice_get}
use Rattle.disk_pictures.proofs.Past.{found-past, left-out-past, none-past, one-less, passed-past}
use Rattle.disk_pictures.specs.Drawings.{file_in}
use Rattle.disk_pictures.specs.PastErrors.{having}
use Rattle.disk_pictures.proofs.views.past_errors.nth_with.Goals.{else-is_of, then-is_of+else-left-eq0}
use Rattle.disk_pictures.proofs.views.past_errors.nth_with.Goals as goal

pub returns-then-left-eq0 : goal.returns-then-left-eq0
returns-then-left-eq0 c =
    found-past c.args.image.now c.args.number c.args.files.now c.loop-file.file-index c.file-item.result _ c.loop-file.left
    c.loop-file-test.true (sym c.file-item.is) (sym c.is_of.ensures ∙ c.if-is_of.true) c.if-left-eq0.true c.loop-file.invariant

pub loop-file-preserved : goal.loop-file-preserved
loop-file-preserved c =
    let image = c.args.image.now in
    let fs = c.args.files.now in
    let i = c.loop-file.file-index in
    elim c.if-is_of.branch [
      | then-is_of+else-left-eq0 w ↦
          passed-past image c.args.number fs i c.file-item.result _ c.loop-file.left c.if-is_of.left c.loop-file-test.true
          (sym c.file-item.is) (sym c.is_of.ensures ∙ w.if-is_of.true)
          (one-less c.loop-file.left c.if-is_of.left w.if-left-eq0.false w.left-is) c.loop-file.invariant
      | else-is_of w ↦
          left-out-past image c.args.number fs i c.file-item.result _ c.loop-file.left c.loop-file-test.true
          (sym c.file-item.is) (sym c.is_of.ensures ∙ w.if-is_of.false) c.loop-file.invariant
          ∙ ap (slice_get (having image c.args.number (map file_in (drop (i + 1) fs)))) (sym w.left-is)
    ]

pub returns : goal.returns
returns c =
    none-past c.args.image.now c.args.number c.args.files.now c.loop-file.file-index _ c.loop-file.left
    (omega (arith, c.loop-file-test.false)) c.loop-file.invariant
