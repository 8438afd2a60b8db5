-- The disk's id and version, and what a check told.
use Rattle.std.proofs.Common.{refl}
use Rattle.std.proofs.Output.{has_written_of_eq}
use Rattle.disk_pictures.specs.Pictures.{drawing_head, told_text}
use Rattle.disk_pictures.proofs.pages.page.ToldDisplay.fmt.Goals as goal

pub returns-clause-writes : goal.returns-clause-writes
unfolding drawing_head told_text
returns-clause-writes g c = λ plain done. has_written_of_eq _ _ _ _ _
    (rw (
      (rw c.new-view.ensures at c.id.ensures),
      (rw c.new-view.ensures at c.version.ensures),
      c.class_of.ensures,
      c.disk_name.ensures,
    ) refl)
    (c.write.ensures.writes plain done)
