-- IMAGE is read, and nothing changes.
use Rattle.image_log.specs.life.Shops.{GivesOneOf}
use Rattle.image_log.proofs.lemmas.life.Landed.{read_found, read_moments}
use Rattle.image_log.proofs.lemmas.life.Steps.{started}
use Rattle.image_log.proofs.life.ending.see_image.Goals as goal

pub returns-in_err-now-clause-any_moment : goal.returns-in_err-now-clause-any_moment
returns-in_err-now-clause-any_moment g c shops s found =
    started g.D.LogFolder.history c.args.folder.now (GivesOneOf shops) found.left

pub returns-in_err-read_image-clause-any_moment : goal.returns-in_err-read_image-clause-any_moment
returns-in_err-read_image-clause-any_moment g c shops s found = read_moments g.D.LogFolder.history c.args.folder.now
    c.read_image.new.self c.read_image.result c.read_image.ensures.acts shops s found

pub returns-clause-any_moment : goal.returns-clause-any_moment
returns-clause-any_moment g c shops s found = read_moments g.D.LogFolder.history c.args.folder.now c.read_image.new.self
    c.read_image.result c.read_image.ensures.acts shops s found
