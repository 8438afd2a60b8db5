-- The lines are those of the image, or its tile says why there are none.
use Rattle.std.proofs.Common.{subst, sym}
use Rattle.std.proofs.lemmas.Result.{IfOk-weaker}
use Rattle.disk_pictures.specs.Missing.{IsMissing}
use Rattle.disk_pictures.proofs.Tiled.{fault-tile}
use Rattle.disk_pictures.proofs.sheets.sheet_printing.sheet_tile.Goals as goal

pub print_tile_with-requires : goal.print_tile_with-requires
print_tile_with-requires g c = subst (IsMissing c.args.image.now) (sym c.as_slice.ensures.value) c.in-Ok.ensures.ok

pub returns-in-Err-clause-ok : goal.returns-in-Err-clause-ok
returns-in-Err-clause-ok g c =
    IfOk-weaker c.print_undrawn.result _ _ (λ status told. fault-tile g.W.Write.contents c.args.path.now c.args.image.now c.args.out.now
    c.print_undrawn.new.out status c.in-Err.fault c.in-Err.ensures.err c.in-Err.ensures.not_file told.0 told.1)
    c.print_undrawn.ensures.ok
