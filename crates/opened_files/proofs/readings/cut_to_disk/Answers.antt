-- The disk in an image is the front of the image.
use Rattle.std.proofs.Common.{ℕ, List, ap, length, take, ◌∙◌}
use Rattle.std.specs.Prelude.{vec_items}
use Rattle.damaged_files.proofs.lemmas.reached.Sized.{take-disk}
use Rattle.damaged_files.specs.reached.Sizes.{disk_of}
use Rattle.opened_files.proofs.readings.cut_to_disk.Goals as goal

pub returns : goal.returns
returns c = let items = vec_items c.args.image.now in
    c.truncate.ensures.items
    ∙ ap (λ (xs : List ℕ). take (length xs) items) (c.disk_in-length.ensures ∙ ap disk_of c.as_slice.ensures.value)
    ∙ take-disk items
