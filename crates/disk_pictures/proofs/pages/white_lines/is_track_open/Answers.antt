-- One sector more.
use Rattle.std.proofs.Common.{arith, ◌∙◌}
use Rattle.disk_pictures.proofs.Opening.{any-all, any-more, any-none, or-first, or-second}
use Rattle.disk_pictures.specs.Pictures.{is_track_open}
use Rattle.disk_pictures.proofs.pages.white_lines.is_track_open.Goals as goal
use Rattle.disk_pictures.proofs.pages.white_lines.is_track_open.Goals.{then-found, else-found}

pub loop-sector-init : goal.loop-sector-init
loop-sector-init c = any-none _

pub loop-sector-preserved : goal.loop-sector-preserved
loop-sector-preserved c = elim c.if-found.branch [
  | then-found w ↦ any-more c.loop-sector.sector _ _ _ _ c.loop-sector.invariant c.is_open_at-here.ensures
      (or-first _ _ _ w.if-found.true (w.found-is ∙ w.if-found.true))
  | else-found w ↦ any-more c.loop-sector.sector _ _ _ _ c.loop-sector.invariant c.is_open_at-here.ensures
      (or-second _ _ _ w.if-found.false w.found-is)
]

pub returns : goal.returns
unfolding is_track_open
returns c = any-all c.loop-sector.sector 21 _ _ (omega (arith, c.loop-sector-test.false, c.loop-sector.auto.sector-end))
    c.loop-sector.invariant
