-- An event more was taken.
use Rattle.std.proofs.Common.{◌<◌, ◌+◌, ◌∙◌, ◌∷◌, List, ap, arith, drop, length, map, sym}
use Rattle.host_session.proofs.lemmas.runs.EventEnds.{next_taken, taken_last}
use Rattle.host_session.proofs.lemmas.events.Reports.{taken_on}
use Rattle.host_session.specs.events.Asking.{last_taken, message_here}
use Rattle.host_session.specs.events.Events.{Message, message_of}
use Rattle.host_session.specs.events.Instants.{instant_of}
use Rattle.host_session.proofs.events.sources.EventListEventSource.next.Goals as goal

pub returns : goal.returns
returns g c =
    let n = c.args.self.now.taken in
    let es = c.args.self.now.events.now in (
      λ first xs given.
          let below : n < length first.events.now = omega (arith, ap length given.0) in
          let here = ap (λ es. message_here (last_taken (n + 1) es)) given.0
          ∙ ap message_here (taken_last first.events.now n) in
          let left : List Message = map message_of (drop (n + 1) first.events.now) in (
            given.0,
            taken_on xs _ _ _ _ (instant_of g.D.Sectors.history c.args._disk.now) given.1
                (next_taken first.events.now n below ∙ ap (λ m. m ∷ left) (sym here)),
          ),
      omega arith,
      λ failed. failed,
    )
