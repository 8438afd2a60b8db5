-- The groups, one after another.
use Rattle.std.proofs.lemmas.Result.{on_ok_weaker}
use Rattle.std.proofs.KnownBytes.{Appends-trans}
use Rattle.disk_pictures.proofs.Printing.{four}
use Rattle.disk_pictures.specs.Pictures.{drawing_text}
use Rattle.disk_pictures.proofs.pages.picture_printing.print_drawing.Goals as goal

pub returns-clause-ok : goal.returns-clause-ok
unfolding drawing_text
returns-clause-ok g c = on_ok_weaker c.print_fault.result
    (λ end. Appends-trans _ _ _ _ _ c.in_ok-print_system.ensures.ok (four _ _ _ _ _ _ _ _ _ c.in_ok-print_files.ensures.ok
    c.in_ok-print_others.ensures.ok c.in_ok-print_open.ensures.ok end)) c.print_fault.ensures.ok
