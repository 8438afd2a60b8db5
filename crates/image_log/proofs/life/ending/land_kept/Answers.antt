-- IMAGE is looked at, and then the log is landed.
use Rattle.image_log.specs.life.Shops.{GivesOneOf}
use Rattle.image_log.proofs.lemmas.life.Steps.{joined}
use Rattle.image_log.proofs.life.ending.land_kept.Goals as goal

pub returns-in_err-see_image-clause-any_moment : goal.returns-in_err-see_image-clause-any_moment
returns-in_err-see_image-clause-any_moment g c shops s f found log now gives = c.see_image.ensures.any_moment shops s found

pub returns-in_err-land_found-clause-any_moment : goal.returns-in_err-land_found-clause-any_moment
returns-in_err-land_found-clause-any_moment g c shops s f found log now gives =
    joined g.D.LogFolder.history c.args.folder.now c.see_image.new.folder c.land_found.new.folder (GivesOneOf shops)
    (c.see_image.ensures.any_moment shops s found)
    (c.land_found.ensures.any_moment shops s f (c.in_ok-see_image.ensures.ok shops s found) log now gives)

pub returns-clause-any_moment : goal.returns-clause-any_moment
returns-clause-any_moment g c shops s f found log now gives =
    joined g.D.LogFolder.history c.args.folder.now c.see_image.new.folder c.land_found.new.folder (GivesOneOf shops)
    (c.see_image.ensures.any_moment shops s found)
    (c.land_found.ensures.any_moment shops s f (c.in_ok-see_image.ensures.ok shops s found) log now gives)

pub returns-clause-ok : goal.returns-clause-ok
returns-clause-ok g c shops s f found log now gives =
    c.in_ok-land_found.ensures.ok shops s f (c.in_ok-see_image.ensures.ok shops s found) log now gives
