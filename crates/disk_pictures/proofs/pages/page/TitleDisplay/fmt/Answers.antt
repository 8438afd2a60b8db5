-- The disk's name, the style and the dashes.
use Rattle.std.proofs.Common.{refl}
use Rattle.std.proofs.Output.{has_written_of_eq}
use Rattle.disk_pictures.specs.Pictures.{dashes, page_head, style, title_text}
use Rattle.disk_pictures.proofs.pages.page.TitleDisplay.fmt.Goals as goal

pub returns-clause-writes : goal.returns-clause-writes
unfolding page_head dashes style title_text
returns-clause-writes g c = λ plain done. has_written_of_eq _ _ _ _ _
    (rw (c.disk_name-bytes.ensures) refl) (c.write.ensures.writes plain done)
