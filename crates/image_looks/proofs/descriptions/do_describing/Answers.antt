-- The heading was printed, then all of them, and what the output held back.
use Rattle.std.proofs.Common.{◌∙◌, Err, ap, map, subst}
use Rattle.std.proofs.lemmas.Result.{err_from_is_err_and}
use Rattle.std.specs.Io.KnownBytes.{Appends}
use Rattle.image_looks.specs.EachImage.{AreEach, AreHandedOn, IsReadAt}
use Rattle.image_looks.specs.Descriptions.{IsDescribedFrom, heading_of}
use Rattle.image_looks.proofs.EachTold.{cut-off, several-told, several-weaker}
use Rattle.image_looks.specs.Extents.{form_extent}
use Rattle.opened_files.specs.declared.extents.Extent.{Extent}
use Rattle.image_looks.proofs.descriptions.do_describing.Goals as goal

pub returns-in_err-greatest : goal.returns-in_err-greatest
returns-in_err-greatest g c =
    let p = err_from_is_err_and c.from_residual-in_err-greatest.result c.from_residual-in_err-greatest.ensures.1 in
    rw (p.1 ∙ ap Err p.2) (cut-off _ c.in_err-greatest.field-0.0 c.in_err-greatest.ensures.err)

pub returns : goal.returns
returns g c =
    let reads = IsReadAt g.R.HostFiles.rights g.R.HostFiles.stands c.args.rt.now (form_extent c.args.form) in
    let each = subst (λ (extent : Extent). AreEach (IsReadAt g.R.HostFiles.rights g.R.HostFiles.stands c.args.rt.now extent)
    (IsDescribedFrom g.W.Write.contents c.args.form) (map (λ path. path.now) c.args.paths.now) c.print_heading.new.out
    c.print_each.new.out c.in_ok-greatest.greatest) c.extent.ensures c.in_ok-greatest.ensures.ok in
    let paths = map (λ path. path.now) c.args.paths.now in
    let told = g.W.Write.contents in
    let below = c.print_heading.new.out in
    several-weaker (AreHandedOn reads (IsDescribedFrom told c.args.form) told paths below c.several_end.new.out)
    (λ greatest. (top : g.row.W.Denot) × Appends (told c.args.out.now) (told top) (heading_of c.args.form)
    × AreHandedOn reads (IsDescribedFrom told c.args.form) told paths top c.several_end.new.out greatest)
    (λ greatest done. (below, c.in_ok-print_heading.ensures.ok, done)) c.several_end.result
    (several-told reads (IsDescribedFrom told c.args.form) told paths below c.print_each.new.out c.several_end.new.out
    c.in_ok-greatest.greatest c.several_end.result each c.several_end.ensures)
