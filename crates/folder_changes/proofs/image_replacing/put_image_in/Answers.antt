-- The sectors are those of the image.
use Rattle.std.proofs.Common.{subst}
use Rattle.d64_image.specs.Images.{Image}
use Rattle.image_log.specs.life.Folders.{LeavesFolders}
use Rattle.image_log.specs.life.Replacing.{KeepsOrGives}
use Rattle.folder_changes.proofs.image_replacing.put_image_in.Goals as goal

pub returns-in-Ok-supersede-clause-any_moment : goal.returns-in-Ok-supersede-clause-any_moment
returns-in-Ok-supersede-clause-any_moment g c log before rests =
    subst (λ (i : Image). LeavesFolders g.D.LogFolder.history c.args.folder.now c.supersede.new.folder (KeepsOrGives log before i))
    c.sectors_of.ensures.value (c.supersede.ensures.any_moment log before rests)

pub returns-clause-any_moment : goal.returns-clause-any_moment
returns-clause-any_moment g c log before rests =
    subst (λ (i : Image). LeavesFolders g.D.LogFolder.history c.args.folder.now c.supersede.new.folder (KeepsOrGives log before i))
    c.sectors_of.ensures.value (c.supersede.ensures.any_moment log before rests)
