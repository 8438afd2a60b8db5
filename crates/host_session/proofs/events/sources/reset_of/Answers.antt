-- A line that isn't bad has its event.
use Rattle.std.proofs.Common.{◌≡◌, ◌∙◌, Some, ap, sym}
use Rattle.std.specs.Prelude.{option_map}
use Rattle.std.proofs.lemmas.Option.{none-some, same_Some}
use Rattle.host_session.proofs.lemmas.events.Reports.{same_message}
use Rattle.host_session.specs.events.Events.{message_in}
use Rattle.line_text.specs.scripts.Resets.{line_in}
use Rattle.host_session.proofs.events.sources.reset_of.Goals as goal

pub returns-in-Some : goal.returns-in-Some
returns-in-Some c = λ l is.
    let e : Some (line_in c.in-Some.field-0) ≡ Some l = ap (option_map line_in) (sym c.in-Some.is) ∙ c.event_at.ensures
    ∙ is in
    ap message_in (sym (same_Some _ _ e)) ∙ same_message c.in-Some.field-0

pub returns-in-None : goal.returns-in-None
returns-in-None c = λ l is. absurd (none-some l (ap (option_map line_in) (sym c.in-None.is) ∙ c.event_at.ensures ∙ is))
