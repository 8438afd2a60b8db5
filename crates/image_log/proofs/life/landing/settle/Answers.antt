-- Two syncs.
use Rattle.image_log.proofs.lemmas.life.Landed.{settled}
use Rattle.image_log.proofs.life.landing.settle.Goals as goal

pub returns-clause-ok : goal.returns-clause-ok
returns-clause-ok g c = settled g.D.LogFolder.history c.args.folder.now c.sync_image.new.self c.sync_folder.new.self
    c.sync_image.ensures.held c.in_ok-sync_image.ensures.ok c.sync_folder.result c.sync_folder.ensures
