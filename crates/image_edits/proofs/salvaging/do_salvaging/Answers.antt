-- The image that is made is that of the bytes that the host says.
use Rattle.std.proofs.Common.{◌∙◌, List, ap, inl, inr, subst, ℕ}
use Rattle.std.specs.Prelude.{vec_items}
use Rattle.d64_image.specs.Memory.{bytes_of}
use Rattle.image_edits.specs.Salvages.{IsSalvageEnd}
use Rattle.image_edits.proofs.Salvaged.{salvage-end}
use Rattle.image_edits.proofs.salvaging.do_salvaging.Goals as goal

pub returns : goal.returns
returns g c all holds =
    inl (subst (λ (bytes : List ℕ). IsSalvageEnd g.R.HostFiles.traces g.F.EndedFile.remains g.W.Write.contents c.args.rt.now
    c.args.copy.now bytes c.args.out.now c.make_told.new.out c.make_told.result)
    (c.in_ok-log.ensures.read all holds)
    (inr (salvage-end g.R.HostFiles.traces g.F.EndedFile.remains g.W.Write.contents c.args.rt.now c.args.copy.now
    (vec_items c.in_ok-log.log) c.args.out.now c.make_told.new.out c.make_told.result (vec_items c.in_ok-image.image)
    (vec_items c.in_ok-image.text) c.as_flattened-image.result.now c.as_slice-2.result.now c.in_ok-image.ensures.ok
    (c.as_flattened-image.ensures.value ∙ ap bytes_of c.as_slice.ensures.value) c.as_slice-2.ensures.value
    c.make_told.ensures)))
