-- A log that is there is landed, and a new one is made.
use Rattle.image_log.proofs.lemmas.life.Made.{begun_moments, brought_alone}
use Rattle.image_log.proofs.life.beginning.begin.Goals as goal

pub returns-in_err-log-clause-any_moment : goal.returns-in_err-log-clause-any_moment
returns-in_err-log-clause-any_moment g c shops s held gives all =
    let landed = c.in_ok-land.ensures.ok shops s held gives all in
    begun_moments g.D.LogFolder.history c.args.folder.now c.land.new.folder c.make_new.new.folder c.land.new.shop shops s gives
    (c.land.ensures.any_moment shops s held gives all) landed
    (c.make_new.ensures.any_moment landed.0.some landed.0.held
    (brought_alone g.D.LogFolder.history c.args.folder.now c.land.new.folder c.make_new.new.folder c.land.new.shop shops s gives
    (c.land.ensures.any_moment shops s held gives all) landed))

pub returns-clause-any_moment : goal.returns-clause-any_moment
returns-clause-any_moment g c shops s held gives all =
    let landed = c.in_ok-land.ensures.ok shops s held gives all in
    begun_moments g.D.LogFolder.history c.args.folder.now c.land.new.folder c.make_new.new.folder c.land.new.shop shops s gives
    (c.land.ensures.any_moment shops s held gives all) landed
    (c.make_new.ensures.any_moment landed.0.some landed.0.held
    (brought_alone g.D.LogFolder.history c.args.folder.now c.land.new.folder c.make_new.new.folder c.land.new.shop shops s gives
    (c.land.ensures.any_moment shops s held gives all) landed))

pub returns-clause-ok : goal.returns-clause-ok
returns-clause-ok g c shops s held gives all =
    let landed = c.in_ok-land.ensures.ok shops s held gives all in (
      landed.1,
      c.in_ok-log.ensures.ok landed.0.some landed.0.held landed.0.is.0
          (brought_alone g.D.LogFolder.history c.args.folder.now c.land.new.folder c.make_new.new.folder c.land.new.shop shops s
          gives (c.land.ensures.any_moment shops s held gives all) landed),
    )
