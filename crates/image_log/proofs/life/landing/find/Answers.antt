-- The folder is settled, and read.
use Rattle.image_log.specs.Readers.{IsOpened}
use Rattle.image_log.proofs.lemmas.life.Landed.{found_read, found_settled}
use Rattle.image_log.proofs.life.landing.find.Goals as goal

pub returns-clause-read : goal.returns-clause-read
returns-clause-read g c = found_read g.D.LogFolder.history c.args.folder.now c.settle.new.folder c.read_image.new.self
    c.read_log.new.self c.read_image.new.image c.settle.ensures.held c.settle.ensures.outcomes c.in_ok-settle.ensures.ok
    c.read_image.result c.read_image.ensures.acts c.in_ok-read_image.ensures.image c.in_ok-read_image.ensures.acts.ok
    (λ log s. IsOpened g.D.Reader.LogReader.bytes log s.log) c.read_log.result c.read_log.ensures.log c.read_log.ensures.acts

pub returns-clause-settled : goal.returns-clause-settled
returns-clause-settled g c = found_settled g.D.LogFolder.history c.args.folder.now c.settle.new.folder c.read_image.new.self
    c.read_log.new.self c.read_image.new.image c.settle.ensures.held c.settle.ensures.outcomes c.in_ok-settle.ensures.ok
    c.read_image.result c.read_image.ensures.acts c.in_ok-read_image.ensures.image c.in_ok-read_image.ensures.acts.ok
    (λ log s. IsOpened g.D.Reader.LogReader.bytes log s.log) c.read_log.result c.read_log.ensures.acts
