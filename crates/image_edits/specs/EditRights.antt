-- What a change may do with the files that it names. Our own.
use Rattle.std.specs.Prelude.{⊤, ℕ, List}
use Rattle.disk_changes.specs.declared.changes.ChangeKind.{ChangeKind}
use Rattle.disk_changes.specs.declared.changes.ChangeKind.TheVariants as kinds
use Rattle.image_edits.specs.declared.effect.Effect.{Effect}
use Rattle.image_edits.specs.declared.effect.Effect.TheVariants.{Printed, Written}
use Rattle.image_file.specs.paths.Rights.{Rights}
use Rattle.opened_files.specs.Rights.{MayReadImage, MayReadText, MayChangeImage}

module _ {H : Type 0} (rights : Rights H) (host : H) where
  -- the files of an image are changed, or only what that would print is printed
  abbrev pub MayEdit : Effect → List ℕ → Type 0
  MayEdit Written path = MayChangeImage rights host path
  MayEdit Printed path = MayReadImage rights host path

  -- the file whose bytes a change takes, or the image, may be read
  abbrev pub MayReadSource : ChangeKind → Type 0
  MayReadSource (kinds.Put file kind name) = MayReadText rights host file.now
  MayReadSource (kinds.PutGeos file name) = MayReadText rights host file.now
  MayReadSource (kinds.Store records columns name) = MayReadText rights host records.now
  MayReadSource (kinds.CopyFile from name to) = MayReadImage rights host from.now
  MayReadSource _ = ⊤
