-- The disk was reported and the lines after it, or not.
use Rattle.std.proofs.Common.{Err, List, ap, inl, inr, refl, subst, ℕ, ◌∙◌}
use Rattle.std.proofs.lemmas.Result.{err_from_is_err_and}
use Rattle.command_faults.specs.declared.faults.CommandFault.TheVariants as faults
use Rattle.std.specs.Io.KnownBytes.{Appends}
use Rattle.image_looks.specs.Reports.{IsReportFault, IsReported, told_as}
use Rattle.image_looks.proofs.Reported.{output-why}
use Rattle.image_looks.proofs.reporting.report_with.Goals as goal

pub returns-in_err-found : goal.returns-in_err-found
returns-in_err-found g c =
    let p = err_from_is_err_and c.from_residual.result c.from_residual.ensures.1 in
    let fault = c.in_err-found.field-0.0 in
    inr (
      fault,
      p.1 ∙ ap Err p.2,
      subst (λ (disk : List ℕ). IsReportFault c.args.report disk fault) c.disk_in.ensures c.in_err-found.ensures.err,
      c.in_err-found.ensures.untouched,
    )

pub returns-in_err-print_lines : goal.returns-in_err-print_lines
returns-in_err-print_lines g c =
    let p = err_from_is_err_and c.from_residual-in_err-print_lines.result c.from_residual-in_err-print_lines.ensures.1 in
    let disk = subst (λ (disk : List ℕ). IsReported g.W.Write.contents c.args.report disk c.args.out.now c.report_disk.new.out
    c.in_ok-found.found) c.disk_in.ensures c.in_ok-found.ensures.ok in
    inr (
      faults.File,
      p.1 ∙ ap Err (p.2 ∙ c.in_err-print_lines.ensures.err),
      output-why g.W.Write.contents c.args.report _ _ _ _ disk,
      λ other. absurd (other refl),
    )

pub returns : goal.returns
returns g c = inl (record {
  found = c.in_ok-found.found;
  lines = c.args.lines.now;
  between = c.report_disk.new.out;
  disk = subst (λ (disk : List ℕ). IsReported g.W.Write.contents c.args.report disk c.args.out.now c.report_disk.new.out
      c.in_ok-found.found) c.disk_in.ensures c.in_ok-found.ensures.ok;
  missing = c.requires.missing;
  told = subst (λ (maps : List ℕ). Appends (g.W.Write.contents c.report_disk.new.out) (g.W.Write.contents c.print_lines.new.out)
      (told_as c.args.report c.args.lines.now maps)) c.requires.maps c.in_ok-print_lines.ensures.ok;
  ended = c.reported_end.ensures;
})
