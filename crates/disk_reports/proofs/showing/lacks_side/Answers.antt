-- The entry names one.
use Rattle.std.proofs.lemmas.Bool.{false≢true}
use Rattle.disk_reports.proofs.showing.lacks_side.Goals as goal

pub returns-in-Some : goal.returns-in-Some
returns-in-Some c = (λ t. absurd (false≢true t), λ h. absurd (h.2 c.in-Some._first c.in-Some.ensures))
