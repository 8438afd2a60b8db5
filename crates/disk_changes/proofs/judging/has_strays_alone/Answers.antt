-- A repair that leaves such sectors taken, on a copy.
use Rattle.std.proofs.Common.{subst, sym}
use Rattle.std.proofs.lemmas.Bool.{false≢true}
use Rattle.disk_changes.proofs.Usable.{not-alone, told-alone}
use Rattle.disk_changes.specs.Judged.{HasStraysAlone}
use Rattle.disk_changes.proofs.judging.has_strays_alone.Goals as goal

pub returns-in-Ok-clause-ok : goal.returns-in-Ok-clause-ok
returns-in-Ok-clause-ok c = told-alone c.args.image.now c.in_ok-kept.kept c.repair_keeping.new.disk c.args.disk.now
    c.in-Ok.field-0 c.in-Ok.ensures c.in_ok-kept.ensures.ok.1 c.requires _ _ c.bytes.ensures.value c.bytes-in-Ok.ensures.value
    c.bytes.ensures.image c.bytes-in-Ok.ensures.image c.eq.result c.eq.ensures

pub returns-clause-ok : goal.returns-clause-ok
returns-clause-ok c = (
  λ t. absurd (false≢true t),
  λ h. absurd (not-alone c.in_ok-kept.kept c.repair_keeping.new.disk c.in-Err.field-0 c.in-Err.ensures
      (subst HasStraysAlone (sym c.in_ok-kept.ensures.ok.1) h)),
)
