-- The check, and whether only sectors that nobody owns are wrong.
use Rattle.std.proofs.Common.{◌∙◌, sym}
use Rattle.std.proofs.lemmas.Bool.{false≢true}
use Rattle.d64_image.specs.Memory.{disk_image}
use Rattle.disk_changes.proofs.Usable.{clean-alone, fault-unusable}
use Rattle.disk_changes.proofs.judging.check_usable.Goals as goal

pub returns-in_default-clause-ok : goal.returns-in_default-clause-ok
returns-in_default-clause-ok c = (
  c.in_ok-disk.ensures.ok.0,
  clean-alone c.args.image.now (disk_image c.in_ok-disk.disk) c.in_ok-disk.ensures.ok.1 c.in_default.ensures.ok.0
      c.in_default.ensures.ok.1,
)

pub returns-then-branch-clause-ok : goal.returns-then-branch-clause-ok
returns-then-branch-clause-ok c = (
  c.in_ok-disk.ensures.ok.0,
  c.in_ok-has_strays_alone.ensures.ok.0 c.if-branch.true,
)

pub returns-clause-err : goal.returns-clause-err
returns-clause-err c = fault-unusable c.args.image.now (disk_image c.in_ok-disk.disk) c.in_ok-disk.ensures.ok.1
    c.in_ok-disk.ensures.ok.0 c.in-Err.fault c.in-Err.ensures.err
    (λ alone. false≢true (sym c.if-branch.false ∙ c.in_ok-has_strays_alone.ensures.ok.1 alone))
