-- It is the first one, or another that holds or doesn't.
use Rattle.std.proofs.Common.{sym, ◌∙◌}
use Rattle.std.proofs.lemmas.Bool.{false≢true}
use Rattle.disk_reports.proofs.gathering.holds_too.Goals as goal

pub returns-then-is_same : goal.returns-then-is_same
returns-then-is_same c =
    (λ t. absurd (false≢true t), λ h. absurd (h.1 (c.is_same.ensures.0 c.if-is_same.true)))

pub returns : goal.returns
returns c = (
  λ t. (c.holds.ensures.0 t, λ e. false≢true (sym c.if-is_same.false ∙ c.is_same.ensures.1 e)),
  λ h. c.holds.ensures.1 h.0,
)
