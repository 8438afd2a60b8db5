-- What the disk in memory holds is the image, which was judged and followed.
use Rattle.std.proofs.Common.{List, refl, subst, ◌∙◌}
use Rattle.std.proofs.lemmas.Result.{err_from_is_err_and}
use Rattle.std.specs.Io.KnownBytes.{Appends}
use Rattle.d64_image.specs.Images.{Image}
use Rattle.damaged_files.specs.cut.Told.{IsShortfallOf}
use Rattle.disk_layout.specs.declared.slot.Slot.{Slot}
use Rattle.disk_reports.specs.Plans.{AreHurt, plan_text}
use Rattle.disk_reports.specs.declared.plans.PlanVerdict.TheVariants as verdicts
use Rattle.command_faults.proofs.Loads.{by-load}
use Rattle.disk_layout.specs.Clean.{IsVerdict}
use Rattle.disk_reports.specs.Outcomes.{IsDescribeFault}
use Rattle.disk_reports.proofs.plans.plan_image.Goals as goal

pub returns-in_err-disk : goal.returns-in_err-disk
returns-in_err-disk g c =
    let p = err_from_is_err_and c.from_residual.result c.from_residual.ensures.1 in record {
      ok = rw p.1 tt;
      err = rw (p.1, p.2) (by-load c.args.image.now (IsDescribeFault c.args.image.now)
          (λ told. told) (λ told. told) _ c.in_err-disk.ensures.err);
      untouched = rw p.1 (λ _. refl);
    }

pub returns-in-Ok : goal.returns-in-Ok
returns-in-Ok g c =
    let loaded = c.in_ok-disk.ensures.ok in
    let found = c.verdict-found.result in
    let files = c.list_hurt.new.files.items in
    let judged = c.verdict-found.ensures.same ∙ loaded.1 in
    let listed = c.find_shortfall-lack.ensures.same ∙ judged in
    let lack = c.find_shortfall-lack.result in
    record {
      ok = record {
        size = loaded.0;
        verdict = subst (λ (i : Image). IsVerdict i found) loaded.1 c.verdict-found.ensures.verdict;
        lack = lack;
        lacks = subst (λ (i : Image). IsShortfallOf i lack) judged c.find_shortfall-lack.ensures.told;
        files = files;
        hurt = subst (λ (i : Image). AreHurt i found lack files) listed c.list_hurt.ensures.files;
        printed = subst (λ (ss : List Slot). Appends (g.W.Write.contents c.args.out.now) (g.W.Write.contents c.print_plan.new.out)
            (plan_text c.args.form c.args.name.now (verdicts.Found found) lack ss c.args.lost.now c.args.next.now))
            c.as_slice.ensures.value c.in-Ok.ensures;
      };
      err = tt;
      untouched = tt;
    }

pub returns : goal.returns
returns g c = record { ok = tt; err = c.in_ok-disk.ensures.ok.0; untouched = λ other. absurd (other refl) }
