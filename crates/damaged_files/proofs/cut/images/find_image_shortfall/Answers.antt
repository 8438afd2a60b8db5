-- What is found of the disk in memory is found of the image.
use Rattle.std.proofs.Common.{subst}
use Rattle.d64_image.specs.Images.{Image}
use Rattle.damaged_files.specs.cut.Told.{IsShortfallOf}
use Rattle.damaged_files.proofs.cut.images.find_image_shortfall.Goals as goal

pub returns-clause-ok : goal.returns-clause-ok
returns-clause-ok c =
    let P : Image → Type 0 = λ i. IsShortfallOf i c.find_shortfall.result in
    subst P c.in_ok-disk.ensures.image c.find_shortfall.ensures.told
