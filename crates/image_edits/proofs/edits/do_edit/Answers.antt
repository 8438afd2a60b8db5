-- The change by its effect.
use Rattle.image_edits.proofs.edits.do_edit.Goals as goal

pub returns-in-Written : goal.returns-in-Written
returns-in-Written g c = rw c.in-Written.is c.edit_written.ensures

pub returns-in-Printed : goal.returns-in-Printed
returns-in-Printed g c = rw c.in-Printed.is c.edit_shown.ensures
