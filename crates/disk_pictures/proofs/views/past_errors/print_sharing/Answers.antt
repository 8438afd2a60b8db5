-- At most one file has the sector, or its line is printed.
use Rattle.std.proofs.Common.{ap, sym, ◌∙◌}
use Rattle.std.proofs.lemmas.Result.{on_ok_weaker}
use Rattle.std.specs.Prelude.{option_map}
use Rattle.disk_pictures.proofs.Past.{sharing-none, sharing-told}
use Rattle.disk_pictures.proofs.views.past_errors.print_sharing.Goals as goal

pub returns-in_default-clause-ok : goal.returns-in_default-clause-ok
returns-in_default-clause-ok g c =
    sharing-none _ _ _ _ (ap (option_map (λ slot. slot.now)) (sym c.in_default.is) ∙ c.nth_past.ensures)

pub returns-clause-ok : goal.returns-clause-ok
returns-clause-ok g c =
    on_ok_weaker c.print_text.result
    (λ told. sharing-told _ _ _ _ _ _ c.in-Some.second.now c.nth_past-first.ensures
    (ap (option_map (λ slot. slot.now)) (sym c.in-Some.is) ∙ c.nth_past.ensures) told)
    c.print_text.ensures.ok
