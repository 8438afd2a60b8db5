-- What the disk in memory holds is the image.
use Rattle.std.proofs.Common.{None, subst, ◌∙◌}
use Rattle.std.proofs.KnownBytes.{Appends-trans}
use Rattle.d64_image.specs.Images.{Image}
use Rattle.damaged_files.specs.cut.Told.{IsToldOfDisk}
use Rattle.disk_layout.specs.Clean.{IsVerdict}
use Rattle.disk_reports.proofs.judging.check_among.Goals as goal

pub returns-clause-ok : goal.returns-clause-ok
returns-clause-ok g c =
    let loaded = c.in_ok-disk.ensures.ok in
    let found = c.verdict-fault.result in
    let cut = c.sound_cut-cut.result in
    record {
      size = loaded.0;
      verdict = subst (λ (i : Image). IsVerdict i found) loaded.1 c.verdict-fault.ensures.verdict;
      cut = cut;
      short = subst (λ (i : Image). IsToldOfDisk i None cut) (c.verdict-fault.ensures.same ∙ loaded.1) c.sound_cut-cut.ensures.told;
      printed = Appends-trans _ _ _ _ _ c.in_ok-print_verdict.ensures.ok c.in_ok-print_cut.ensures.ok;
    }
