-- What was printed of the image's bytes is of those that the host says.
use Rattle.std.proofs.Common.{◌∙◌, Err, ap}
use Rattle.std.proofs.lemmas.Result.{err_from_is_err_and}
use Rattle.image_looks.proofs.Looked.{unbegun}
use Rattle.std.proofs.Common.{◌≡◌, subst}
use Rattle.std.specs.Prelude.{vec_items}
use Rattle.image_looks.specs.Extents.{extent_of}
use Rattle.image_looks.specs.Looks.{IsLook}
use Rattle.opened_files.proofs.HostFiles.{over-taken}
use Rattle.opened_files.specs.Extents.{taken_as}
use Rattle.opened_files.specs.HostFiles.{OfImage}
use Rattle.opened_files.specs.declared.extents.Extent.{Extent}
use Rattle.image_looks.proofs.looks.do_look.Goals as goal

pub returns : goal.returns
returns g c =
    over-taken g.R.HostFiles.rights g.R.HostFiles.stands c.args.rt.now c.args.path.now (extent_of c.args.what.now)
    c.args.out.now c.look.new.out
    c.look.result (vec_items c.in_ok-image.image) c.as_slice.result.now
    (λ image. IsLook g.W.Write.contents c.args.what.now image c.args.out.now c.look.new.out c.look.result)
    (subst (λ (extent : Extent). OfImage g.R.HostFiles.rights g.R.HostFiles.stands c.args.rt.now c.args.path.now
    (λ all. vec_items c.in_ok-image.image ≡ taken_as extent all)) c.extent.ensures c.in_ok-image.ensures.read) c.as_slice.ensures.value c.look.ensures

pub returns-in_err-image : goal.returns-in_err-image
returns-in_err-image g c =
    let p = err_from_is_err_and c.from_residual.result c.from_residual.ensures.1 in
    λ other none all holds. unbegun c.args.out.now c.from_residual.result c.in_err-image.field-0.0 _ (p.1 ∙ ap Err p.2) c.in_err-image.ensures.err
