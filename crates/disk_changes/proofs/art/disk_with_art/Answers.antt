-- The directory can't be read.
use Rattle.std.proofs.Common.{inr, subst}
use Rattle.d64_image.specs.Images.{Image}
use Rattle.disk_layout.specs.Fault.{HoldsOfDirectory, nowhere}
use Rattle.disk_changes.proofs.art.disk_with_art.Goals as goal

pub returns-in_default-clause-found : goal.returns-in_default-clause-found
returns-in_default-clause-found c = inr (
  c.in_default.field-0,
  subst (λ (img : Image). HoldsOfDirectory nowhere img c.in_default.field-0) c.in_ok-disk.ensures.ok.1 c.in_default.ensures.err,
)
