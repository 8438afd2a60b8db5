-- The directory doesn't end so, and an entry does or none does.
use Rattle.std.proofs.Common.{inl, inr, sym, ◌∙◌}
use Rattle.std.proofs.lemmas.Bool.{false≢true}
use Rattle.disk_reports.proofs.holding.has_bad_link.Goals as goal

pub returns : goal.returns
returns c = (
  λ t. inr (c.shows_one.ensures.0 t),
  λ h. elim h [
    | inl e ↦ absurd (false≢true (sym c.if-ends_nowhere.false ∙ c.ends_nowhere.ensures.1 e))
    | inr shown ↦ c.shows_one.ensures.1 shown
  ],
)
