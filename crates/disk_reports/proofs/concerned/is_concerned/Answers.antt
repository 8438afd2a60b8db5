-- What the links of the entry come to shows the fault, or doesn't.
use Rattle.std.proofs.Common.{sym, ◌∙◌}
use Rattle.std.proofs.lemmas.Bool.{false≢true}
use Rattle.disk_reports.proofs.concerned.is_concerned.Goals as goal

pub returns-clause-concerned : goal.returns-clause-concerned
returns-clause-concerned c = λ t. (c.follow.result, c.follow.ensures.trail, c.follow.ensures.slot, c.shows.ensures.0 t)

pub returns-clause-other : goal.returns-clause-other
returns-clause-other c = λ f. (
  c.follow.result,
  c.follow.ensures.trail,
  c.follow.ensures.slot,
  λ h. false≢true (sym f ∙ c.shows.ensures.1 h),
)
