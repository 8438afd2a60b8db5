-- The tile of what is drawn, or why nothing is.
use Rattle.std.proofs.lemmas.Result.{IfOk-weaker}
use Rattle.disk_pictures.proofs.Tiled.{drawn-tile, fault-tile}
use Rattle.disk_pictures.proofs.sheets.sheet_printing.print_tile_with.Goals as goal

pub returns-in-Ok-clause-ok : goal.returns-in-Ok-clause-ok
returns-in-Ok-clause-ok g c =
    IfOk-weaker c.print_drawn.result _ _ (λ status told. drawn-tile g.W.Write.contents c.args.path.now c.args.image.now c.args.out.now
    c.print_drawn.new.out status c.args.lines.now c.in-Ok.drawing c.in-Ok.verdict c.in-Ok.ensures.ok c.requires told.0 told.1)
    c.print_drawn.ensures.ok

pub returns-in-Err-clause-ok : goal.returns-in-Err-clause-ok
returns-in-Err-clause-ok g c =
    IfOk-weaker c.print_undrawn.result _ _ (λ status told. fault-tile g.W.Write.contents c.args.path.now c.args.image.now c.args.out.now
    c.print_undrawn.new.out status c.in-Err.fault c.in-Err.ensures.err c.in-Err.ensures.not_file told.0 told.1)
    c.print_undrawn.ensures.ok
