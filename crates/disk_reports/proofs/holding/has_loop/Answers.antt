-- The directory doesn't end so, and an entry does or none does.
use Rattle.std.proofs.Common.{inl, inr, sym, ◌∙◌}
use Rattle.std.proofs.lemmas.Bool.{false≢true}
use Rattle.disk_reports.proofs.holding.has_loop.Goals as goal

pub returns : goal.returns
returns c = (
  λ t. inr (c.shows_one.ensures.0 t),
  λ h. elim h [
    | inl e ↦ absurd (false≢true (sym c.if-comes_back.false ∙ c.comes_back.ensures.1 e))
    | inr shown ↦ c.shows_one.ensures.1 shown
  ],
)
