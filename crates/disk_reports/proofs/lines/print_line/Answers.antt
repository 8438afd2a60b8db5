-- The line has the entries that were kept.
use Rattle.std.proofs.Common.{List, subst}
use Rattle.std.proofs.lemmas.Result.{on_ok_weaker}
use Rattle.std.specs.Io.KnownBytes.{Appends}
use Rattle.disk_layout.specs.declared.slot.Slot.{Slot}
use Rattle.disk_reports.specs.AllFaults.{AreShown, fault_line}
use Rattle.disk_reports.specs.declared.trail.Trail.{Trail}
use Rattle.disk_reports.proofs.lines.print_line.Goals as goal

pub returns : goal.returns
returns g c =
    let files = c.keep_shown.new.files.items in
    on_ok_weaker c.print_fault.result (λ put. (
      files,
      subst (λ (ts : List Trail). AreShown ts c.args.fault files) c.as_slice.ensures.value c.keep_shown.ensures,
      subst (λ (ss : List Slot). Appends (g.W.Write.contents c.args.out.now) (g.W.Write.contents c.print_fault.new.out)
          (fault_line c.args.fault ss)) c.as_slice-2.ensures.value put,
    )) c.print_fault.ensures
