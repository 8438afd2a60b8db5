-- The entries are those of the disk.
use Rattle.std.proofs.Common.{List, ◌↔◌, subst}
use Rattle.std.specs.Prelude.{IsTrue}
use Rattle.disk_reports.specs.AllFaults.{IsShownBy}
use Rattle.disk_reports.specs.declared.trail.Trail.{Trail}
use Rattle.disk_reports.proofs.holding.shows_one.Goals as goal

pub returns : goal.returns
returns c = subst (λ (ts : List Trail). IsTrue c.is_shown.result ↔ IsShownBy ts c.args.fault) c.as_slice.ensures.value
    c.is_shown.ensures
