-- Of the sectors that the links came to as many as the blocks need.
use Rattle.std.proofs.lemmas.Result.{IfOk-weaker}
use Rattle.disk_pictures.proofs.Drawn.{sides-drawn}
use Rattle.disk_pictures.proofs.files.draw_sides.Goals as goal

pub returns-clause-relative : goal.returns-clause-relative
returns-clause-relative c = IfOk-weaker c.list_of.result _ _
    (λ list part rel. sides-drawn _ c.args.slot.now.bytes _ _ _ _ _ _ c.args.blocks _ c.new-entry.ensures
    c.first_side.ensures c.walk.ensures.ok
    c.as_slice-found.ensures.value c.min.ensures part)
    c.list_of.ensures.ok

pub returns-clause-err : goal.returns-clause-err
returns-clause-err c = c.list_of.ensures.err
