-- The word, and the entry's line.
use Rattle.std.proofs.Common.{sym, ◌∙◌}
use Rattle.std.proofs.lemmas.Result.{on_ok_weaker}
use Rattle.disk_pictures.proofs.lemmas.views.Viewed.{block-owned, side-owned}
use Rattle.disk_pictures.specs.Held.{drawn_in}
use Rattle.disk_pictures.proofs.views.sector_printing.print_owner.Goals as goal

pub returns-in_ok-print_text-in-Blocks-clause-ok : goal.returns-in_ok-print_text-in-Blocks-clause-ok
returns-in_ok-print_text-in-Blocks-clause-ok g c =
    let d = c.args.drawing.now in
    on_ok_weaker c.print_entry.result (block-owned _ _ _ d.map (drawn_in d) c.args.place c.in-Blocks.number
    (sym c.owner.ensures ∙ c.in-Blocks.is) c.in_ok-print_text-in-Blocks.ensures.ok) c.print_entry.ensures.ok

pub returns-in_ok-print_text-in-Sides-clause-ok : goal.returns-in_ok-print_text-in-Sides-clause-ok
returns-in_ok-print_text-in-Sides-clause-ok g c =
    let d = c.args.drawing.now in
    on_ok_weaker c.print_entry-in-Sides.result (side-owned _ _ _ d.map (drawn_in d) c.args.place c.in-Sides.number
    (sym c.owner.ensures ∙ c.in-Sides.is) c.in_ok-print_text-in-Sides.ensures.ok) c.print_entry-in-Sides.ensures.ok
