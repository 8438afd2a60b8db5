-- All of them were printed, and what the output held back.
use Rattle.std.proofs.Common.{◌∙◌, Err, ap, map, subst}
use Rattle.std.proofs.lemmas.Result.{err_from_is_err_and}
use Rattle.image_looks.specs.EachImage.{AreHandedOn, IsReadAt, IsSeveralEnd}
use Rattle.image_looks.specs.Overviews.{IsOverviewOf}
use Rattle.image_looks.proofs.EachTold.{cut-off, several-told}
use Rattle.opened_files.specs.declared.extents.Extent.{Extent}
use Rattle.image_looks.proofs.overviews.do_several.Goals as goal

pub returns-in_err-greatest : goal.returns-in_err-greatest
returns-in_err-greatest g c =
    let p = err_from_is_err_and c.from_residual.result c.from_residual.ensures.1 in
    rw (p.1 ∙ ap Err p.2) (cut-off _ c.in_err-greatest.field-0.0 c.in_err-greatest.ensures.err)

pub returns : goal.returns
returns g c =
    let paths = map (λ path. path.now) c.args.paths.now in
    let told = g.W.Write.contents in
    let out = c.args.out.now in
    let new = c.several_end.new.out in
    subst (λ (extent : Extent). IsSeveralEnd (AreHandedOn (IsReadAt g.R.HostFiles.rights g.R.HostFiles.stands c.args.rt.now extent)
    (IsOverviewOf told c.args.what.now) told paths out new) c.several_end.result) c.extent.ensures
    (several-told (IsReadAt g.R.HostFiles.rights g.R.HostFiles.stands c.args.rt.now c.extent.result)
    (IsOverviewOf told c.args.what.now) told paths out c.print_each.new.out new
    c.in_ok-greatest.greatest c.several_end.result c.in_ok-greatest.ensures.ok c.several_end.ensures)
