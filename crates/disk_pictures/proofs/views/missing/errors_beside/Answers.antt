-- What is drawn is of the image's tracks.
use Rattle.std.proofs.Common.{subst}
use Rattle.std.proofs.lemmas.Result.{IfOk-weaker}
use Rattle.std.specs.Prelude.{None, Some}
use Rattle.d64_image.specs.Memory.{sectors_in}
use Rattle.disk_layout.specs.Fault.{HoldsOfDirectory, nowhere}
use Rattle.disk_pictures.specs.Drawings.{IsDrawn}
use Rattle.disk_pictures.specs.Held.{drawn_in}
use Rattle.disk_pictures.proofs.views.missing.errors_beside.Goals as goal

pub returns-in-Ok-clause-ok : goal.returns-in-Ok-clause-ok
returns-in-Ok-clause-ok c =
    let drawn = rw c.in-Ok.is at c.in_ok-drawing.ensures.ok in
    IfOk-weaker c.errors_of.result _ _ (λ lines is. record {
      size = c.requires.size;
      drawn = Some (drawn_in c.in-Ok.drawing);
      is_drawn = subst (λ ts. IsDrawn (sectors_in ts) (drawn_in c.in-Ok.drawing)) c.requires.tracks drawn;
      is = is;
    }) c.errors_of.ensures.ok

pub returns-clause-ok : goal.returns-clause-ok
returns-clause-ok c =
    let holds = rw c.in-Err.is at c.in_ok-drawing.ensures.ok in
    IfOk-weaker c.errors_of-in-Err.result _ _ (λ lines is. record {
      size = c.requires.size;
      drawn = None;
      is_drawn = (c.in-Err.field-0, subst (λ ts. HoldsOfDirectory nowhere (sectors_in ts) c.in-Err.field-0) c.requires.tracks holds);
      is = is;
    }) c.errors_of-in-Err.ensures.ok
