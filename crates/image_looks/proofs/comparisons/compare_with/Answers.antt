-- The disks were drawn and the lines after them, or not.
use Rattle.std.proofs.Common.{Err, List, ap, inl, inr, refl, subst, ℕ, ◌∙◌}
use Rattle.std.proofs.lemmas.Result.{err_from_is_err_and}
use Rattle.command_faults.specs.declared.faults.CommandFault.TheVariants as faults
use Rattle.disk_pictures.specs.ComparedOutcomes.{IsComparisonFault, IsComparisonPrinted}
use Rattle.image_looks.proofs.Compared.{output-why, over-disks}
use Rattle.image_looks.proofs.comparisons.compare_with.Goals as goal

pub returns-in_err-found : goal.returns-in_err-found
returns-in_err-found g c =
    let p = err_from_is_err_and c.from_residual.result c.from_residual.ensures.1 in
    let fault = c.in_err-found.field-0.0 in
    inr (
      fault,
      p.1 ∙ ap Err p.2,
      over-disks _ _ _ _ (λ a b. IsComparisonFault a b fault) c.disk_in-first.ensures c.disk_in-second.ensures
          c.in_err-found.ensures.err,
      c.in_err-found.ensures.untouched,
    )

pub returns-in_err-print_block : goal.returns-in_err-print_block
returns-in_err-print_block g c =
    let p = err_from_is_err_and c.from_residual-in_err-print_block.result c.from_residual-in_err-print_block.ensures.1 in
    inr (
      faults.File,
      p.1 ∙ ap Err (p.2 ∙ c.in_err-print_block.ensures.err),
      output-why g.W.Write.contents _ _ _ _ _ _ _ (over-disks _ _ _ _ (λ a b. IsComparisonPrinted g.W.Write.contents
          c.args.before_path.now a c.args.after_path.now b c.args.out.now c.compare_images.new.out c.in_ok-found.found)
          c.disk_in-first.ensures c.disk_in-second.ensures c.in_ok-found.ensures.ok),
      λ other. absurd (other refl),
    )

pub returns : goal.returns
returns g c = inl (record {
  found = c.in_ok-found.found;
  lines = c.args.lines.now;
  between = c.compare_images.new.out;
  disks = over-disks _ _ _ _ (λ a b. IsComparisonPrinted g.W.Write.contents c.args.before_path.now a c.args.after_path.now b
      c.args.out.now c.compare_images.new.out c.in_ok-found.found) c.disk_in-first.ensures c.disk_in-second.ensures
      c.in_ok-found.ensures.ok;
  missing = c.requires;
  told = c.in_ok-print_block.ensures.ok;
  ended = c.reported_end.ensures;
})
