-- A sector has an owner where its number isn't 255.
use Rattle.std.proofs.Common.{sym, ◌∙◌}
use Rattle.layout_check.proofs.lemmas.owners.Claims.{other-number, other-test}
use Rattle.layout_check.proofs.owners.Owners.is_owned.Goals as goal

pub returns : goal.returns
returns c = (
  λ t e. other-number c.owner.result 255 t (c.owner.ensures ∙ e),
  λ ne. other-test c.owner.result 255 (λ e. ne (sym c.owner.ensures ∙ e)),
)
