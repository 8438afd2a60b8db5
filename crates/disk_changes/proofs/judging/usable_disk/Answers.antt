-- The judgement of the image.
use Rattle.disk_changes.proofs.Usable.{is-usable}
use Rattle.disk_changes.proofs.judging.usable_disk.Goals as goal

pub returns-clause-ok : goal.returns-clause-ok
returns-clause-ok c = (
  is-usable c.args.image.now c.args.cut c.in_ok-disk.ensures.ok.0 c.in_ok-check_usable.ensures.ok.1,
  c.in_ok-disk.ensures.ok.1,
)
