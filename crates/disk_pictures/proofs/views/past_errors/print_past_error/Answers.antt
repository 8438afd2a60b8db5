-- The sector was read, or its line is printed.
use Rattle.std.proofs.Common.{sym, ◌∙◌}
use Rattle.std.proofs.lemmas.Result.{on_ok_weaker}
use Rattle.disk_pictures.proofs.Past.{error-none, error-told}
use Rattle.disk_pictures.proofs.views.past_errors.print_past_error.Goals as goal

pub returns-in_default-clause-ok : goal.returns-in_default-clause-ok
returns-in_default-clause-ok g c = error-none _ _ _ _ (sym c.error_in.ensures ∙ c.in_default.is)

pub returns-clause-ok : goal.returns-clause-ok
returns-clause-ok g c =
    on_ok_weaker c.print_text.result
    (λ told. error-told _ _ _ _ _ _ c.in-Some.error c.entry_past-entry.ensures (sym c.error_in.ensures ∙ c.in-Some.is) told)
    c.print_text.ensures.ok
