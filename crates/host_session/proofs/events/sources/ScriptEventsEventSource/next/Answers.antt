-- A line with a reset.
use Rattle.host_session.proofs.lemmas.events.Reports.{line_taken, taken_on}
use Rattle.host_session.specs.events.Instants.{instant_of}
use Rattle.host_session.proofs.events.sources.ScriptEventsEventSource.next.Goals as goal

pub returns-in-Some-eq64 : goal.returns-in-Some-eq64
returns-in-Some-eq64 g c = (
  λ first xs given good.
      let now = given good in
      let x = line_taken _ _ c.in-Some.line.now _ c.in-Some.ensures.0 c.reset_of-cut.ensures now.0 in
      (x.0, taken_on xs _ _ _ _ (instant_of g.D.Sectors.history c.args._disk.now) now.1 x.1),
  c.in-Some.ensures.1,
  λ failed. failed,
)
