-- What the survey tells of the files.
use Rattle.std.proofs.Common.{◌∙◌, inr, refl, subst}
use Rattle.std.specs.Prelude.{None}
use Rattle.damaged_files.specs.cut.Told.{IsToldOf}
use Rattle.std.proofs.lemmas.Bool.{false≢true}
use Rattle.d64_image.specs.Memory.{disk_image}
use Rattle.disk_changes.proofs.Judged.{cut-untaken, is-short, uncut-is, unsound-is}
use Rattle.disk_changes.proofs.judging.taken_disk.Goals as goal

pub returns-in-Ok-Some-clause-err : goal.returns-in-Ok-Some-clause-err
returns-in-Ok-Some-clause-err c =
    let is = c.find_cut.ensures.same ∙ c.in_ok-disk.ensures.ok.1 in
    cut-untaken c.args.image.now (disk_image c.find_cut.new.disk) is c.in-Ok-Some.place
    (is-short c.args.image.now (disk_image c.in_ok-disk.disk) c.in_ok-disk.ensures.ok.1
    c.in_ok-disk.ensures.ok.0 (c.in-Ok-Some.ensures.sound.0 refl) c.in-Ok-Some.place
    (λ l layout. subst (IsToldOf (disk_image c.in_ok-disk.disk) l None) c.in-Ok-Some.field-0-is (c.in-Ok-Some.ensures.ok l layout)))
    c.args.cut c.in-Refused.is c.cut_refusal.result c.cut_refusal.ensures

pub returns-in-Ok-None-clause-ok : goal.returns-in-Ok-None-clause-ok
returns-in-Ok-None-clause-ok c = (
  (
    c.in_ok-disk.ensures.ok.0,
    inr (uncut-is c.args.image.now (disk_image c.in_ok-disk.disk) c.in_ok-disk.ensures.ok.1
        (λ l layout. subst (IsToldOf (disk_image c.in_ok-disk.disk) l None) c.in-Ok-None.field-0-is (c.in-Ok-None.ensures.ok l layout))),
  ),
  c.find_cut.ensures.same ∙ c.in_ok-disk.ensures.ok.1,
)

pub returns-in-Err-clause-ok : goal.returns-in-Err-clause-ok
returns-in-Err-clause-ok c = (
  (
    c.in_ok-disk.ensures.ok.0,
    inr (unsound-is c.args.image.now (disk_image c.in_ok-disk.disk) c.in_ok-disk.ensures.ok.1
        (λ sound. false≢true (c.in-Err.ensures.sound.1 sound))),
  ),
  c.find_cut.ensures.same ∙ c.in_ok-disk.ensures.ok.1,
)
