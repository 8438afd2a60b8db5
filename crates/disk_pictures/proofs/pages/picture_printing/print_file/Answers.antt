-- Blocks and side sectors in a group.
use Rattle.std.proofs.lemmas.Result.{on_ok_weaker}
use Rattle.disk_pictures.proofs.Printing.{four}
use Rattle.disk_pictures.specs.Pictures.{file_group}
use Rattle.disk_pictures.proofs.pages.picture_printing.print_file.Goals as goal

pub returns-clause-ok : goal.returns-clause-ok
unfolding file_group
returns-clause-ok g c = on_ok_weaker c.print_text-2.result
    (λ end. four _ _ _ _ _ _ _ _ _ c.in_ok-print_text.ensures.ok c.in_ok-print_blocks.ensures.ok c.in_ok-print_sides.ensures.ok
    end) c.print_text-2.ensures.ok
