-- The first line, and the others.
use Rattle.std.proofs.Common.{[], ◌∷◌}
use Rattle.std.proofs.lemmas.Result.{on_ok_weaker}
use Rattle.disk_reports.proofs.Lined.{both-printed}
use Rattle.disk_reports.proofs.listing.print_all.Goals as goal

pub returns : goal.returns
returns g c =
    on_ok_weaker c.print_lines-2.result
    (both-printed c.args.links.now (c.args.first ∷ []) c.args.others.now _ _ _ c.in_ok-print_lines.ensures)
    c.print_lines-2.ensures
