-- The files that were made are those of the bytes that the host says.
use Rattle.std.proofs.Common.{◌∙◌, Err, ap}
use Rattle.std.proofs.lemmas.Result.{err_from_is_err_and}
use Rattle.image_looks.proofs.Looked.{unbegun}
use Rattle.std.proofs.Common.{List, ℕ}
use Rattle.std.specs.Prelude.{vec_items}
use Rattle.image_looks.specs.Extracts.{IsExtractedTo}
use Rattle.image_looks.proofs.ExtractSaid.{at-path}
use Rattle.opened_files.proofs.HostFiles.{over-taken}
use Rattle.opened_files.specs.declared.extents.Extent.TheVariants.{Whole}
use Rattle.image_looks.proofs.extracting.extract_to.Goals as goal

pub returns : goal.returns
returns g c =
    over-taken g.R.HostFiles.rights g.R.HostFiles.stands c.args.rt.now c.args.path.now Whole c.args.out.now
    c.extract_run.new.out c.extract_run.result (vec_items c.in_ok-image.image) c.as_slice.result.now
    (λ (image : List ℕ). IsExtractedTo g.F.EndedFile.remains g.R.HostFiles.traces g.W.Write.contents c.args.rt.now
    c.args.choice c.args.folder.now image c.args.out.now c.extract_run.new.out c.extract_run.result)
    c.in_ok-image.ensures.read c.as_slice.ensures.value
    (at-path g.F.EndedFile.remains g.R.HostFiles.traces g.W.Write.contents c.new-place.result.rt.now c.args.rt.now
    c.args.choice c.new-place.result.path.now c.args.folder.now c.as_slice.result.now c.args.out.now
    c.extract_run.new.out c.extract_run.result c.new-place.ensures.rt c.new-place.ensures.path c.extract_run.ensures)

pub returns-in_err-image : goal.returns-in_err-image
returns-in_err-image g c =
    let p = err_from_is_err_and c.from_residual.result c.from_residual.ensures.1 in
    λ other none all holds. unbegun c.args.out.now c.from_residual.result c.in_err-image.field-0.0 _ (p.1 ∙ ap Err p.2) c.in_err-image.ensures.err
