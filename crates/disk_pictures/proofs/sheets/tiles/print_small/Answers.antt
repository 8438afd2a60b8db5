-- A shade more, and all of them.
use Rattle.std.proofs.Common.{arith}
use Rattle.disk_pictures.proofs.Printing.{all-below, below-more, none-below}
use Rattle.disk_pictures.specs.Held.{drawn_in}
use Rattle.disk_pictures.specs.Sheets.{shade_path, small_drawing}
use Rattle.disk_pictures.proofs.sheets.tiles.print_small.Goals as goal

pub loop-number-init : goal.loop-number-init
loop-number-init g c = none-below _ _

pub loop-number-preserved : goal.loop-number-preserved
loop-number-preserved g c =
    below-more _ _ _ c.loop-number.number _ c.loop-number.invariant c.in_ok-print_shade.ensures.ok

pub returns-clause-ok : goal.returns-clause-ok
unfolding small_drawing
returns-clause-ok g c =
    let d = c.args.drawing.now in
    all-below _ _ c.loop-number.number 29 (shade_path c.args.found d.map (drawn_in d))
    (omega (arith, c.loop-number-test.false, c.loop-number.auto.number-end)) c.loop-number.invariant
