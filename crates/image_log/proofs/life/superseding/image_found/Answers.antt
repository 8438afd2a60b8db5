-- The folder is read, and its log is closed.
use Rattle.std.proofs.Common.{◌∙◌}
use Rattle.image_log.proofs.lemmas.life.Superseded.{rests_on}
use Rattle.image_log.proofs.life.superseding.image_found.Goals as goal

pub returns-in-Some-clause-ok : goal.returns-in-Some-clause-ok
returns-in-Some-clause-ok g c log before rests =
    let r = c.in_ok-log.ensures.read rests.some rests.held in (
      rests_on g.D.LogFolder.history c.args.folder.now c.leave_log.new.self log before rests
          (λ s held. c.leave_log.ensures.held ∙ (c.in_ok-log.ensures.read s held).0)
          (λ s may. c.find.ensures.outcomes s (c.leave_log.ensures.outcomes s may)),
      r.1 ∙ rests.is.0,
    )

pub returns-in_default-clause-ok : goal.returns-in_default-clause-ok
returns-in_default-clause-ok g c log before rests =
    let r = c.in_ok-log.ensures.read rests.some rests.held in (
      rests_on g.D.LogFolder.history c.args.folder.now c.find.new.folder log before rests
          (λ s held. (c.in_ok-log.ensures.read s held).0) c.find.ensures.outcomes,
      r.1 ∙ rests.is.0,
    )
