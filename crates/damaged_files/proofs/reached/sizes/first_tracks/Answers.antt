-- The size is one of the six, or isn't.
use Rattle.std.proofs.Common.{refl, sym, ◌∙◌}
use Rattle.damaged_files.proofs.lemmas.reached.Sized.{length-tracks}
use Rattle.damaged_files.proofs.reached.sizes.first_tracks.Goals as goal

pub slice_bounds-result-end : goal.slice_bounds-result-end
slice_bounds-result-end c =
    sym (length-tracks c.args.image.now (sym c.is_image_size.ensures ∙ c.if-not-is_image_size.false))

pub returns : goal.returns
returns c = let is = sym c.is_image_size.ensures ∙ c.if-not-is_image_size.false in
    (is, refl, length-tracks c.args.image.now is)
