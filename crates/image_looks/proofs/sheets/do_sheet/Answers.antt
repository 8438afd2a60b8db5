-- The sheet was printed, and its status is told.
use Rattle.std.proofs.Common.{◌∙◌, Err, ap, map}
use Rattle.std.proofs.lemmas.Result.{err_from_is_err_and}
use Rattle.image_looks.specs.EachImage.{IsReadAt}
use Rattle.image_looks.specs.SheetPages.{IsSheetPrinted}
use Rattle.image_looks.proofs.EachTold.{cut-off, several-done}
use Rattle.opened_files.specs.declared.extents.Extent.TheVariants.{Whole}
use Rattle.image_looks.proofs.sheets.do_sheet.Goals as goal

pub returns-in_err-greatest : goal.returns-in_err-greatest
returns-in_err-greatest g c =
    let p = err_from_is_err_and c.from_residual.result c.from_residual.ensures.1 in
    rw (p.1 ∙ ap Err p.2) (cut-off _ c.in_err-greatest.field-0.0 c.in_err-greatest.ensures.err)

pub returns : goal.returns
returns g c =
    several-done (IsSheetPrinted (IsReadAt g.R.HostFiles.rights g.R.HostFiles.stands c.args.rt.now Whole)
    g.W.Write.contents (map (λ path. path.now) c.args.paths.now) c.args.out.now c.print_sheet.new.out)
    c.in_ok-greatest.greatest c.status_end.result c.in_ok-greatest.ensures.ok c.status_end.ensures
