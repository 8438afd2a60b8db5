-- The lines of all sectors that weren't read.
use Rattle.std.proofs.Common.{◌∙◌}
use Rattle.std.proofs.lemmas.Result.{on_ok_weaker}
use Rattle.disk_pictures.proofs.Past.{numbers-all}
use Rattle.disk_pictures.proofs.views.past_errors.print_past_errors.Goals as goal

pub returns-clause-ok : goal.returns-clause-ok
returns-clause-ok g c =
    on_ok_weaker c.print_errors_at.result
    (λ lines. numbers-all _ _ _ _ _ (c.as_slice.ensures.value ∙ c.misread_past-misread.ensures) lines)
    c.print_errors_at.ensures.ok
