-- The number and the sector make the fault.
use Rattle.std.proofs.Common.{ap, sym, ◌∙◌}
use Rattle.std.proofs.lemmas.Bool.{false≢true}
use Rattle.disk_layout.specs.Number.{number_of}
use Rattle.disk_reports.proofs.SameFaults.{same-fault}
use Rattle.disk_layout.specs.Number.{place_of}
use Rattle.disk_reports.proofs.gathering.is_same.Goals as goal

pub returns-then-not-same_number : goal.returns-then-not-same_number
returns-then-not-same_number c = (
  λ t. absurd (false≢true t),
  λ e. absurd (false≢true (sym c.if-not-same_number.true ∙ c.same_number.ensures.1 (ap number_of e))),
)

pub returns : goal.returns
returns c = (
  λ t. same-fault c.args.one c.args.other (c.same_number.ensures.0 c.if-not-same_number.false) (c.same_place.ensures.0 t),
  λ e. c.same_place.ensures.1 (ap place_of e),
)
