-- What is told of the folder holds of the path, of which nothing more is said.
use Rattle.disk_changes.specs.Changes.{IsChanged, IsRefused}
use Rattle.std.specs.Prelude.{⊤}
use Rattle.folder_changes.specs.FolderChanges.{HasNotBegun, IsLeft, IsMade}
use Rattle.folder_changes.proofs.Changed.{told-weaker}
use Rattle.image_log.specs.life.HostLogs.{untagged_folders}
use Rattle.folder_changes.proofs.host_images.AnyHostImages.change_at.Goals as goal

pub returns-clause-run : goal.returns-clause-run
returns-clause-run g c =
    let what = c.args.what.now in
    let image = c.args.image.now in
    let old = c.in_ok-folder.folder in
    let new = c.change_image-ended.new.folder in
    told-weaker g.W.Write.contents (IsMade (untagged_folders g.R.HostLogs.folders _ _ _) what image old new) (λ made. IsChanged what image made × ⊤)
    (IsLeft (untagged_folders g.R.HostLogs.folders _ _ _) what image old new) (IsRefused what image)
    (HasNotBegun (untagged_folders g.R.HostLogs.folders _ _ _) image old new) ⊤ c.args.out.now c.change_image-ended.new.out
    (λ made is. (is.0, tt)) (λ why is. is.0) (λ kept. tt) c.change_image-ended.result c.change_image-ended.ensures.run
