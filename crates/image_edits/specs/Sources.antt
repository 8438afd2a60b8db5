-- The bytes that a change takes of a file of the host. Our own.
use Rattle.std.specs.Prelude.{◌≡◌, ◌≢◌, ⊤, ℕ, List, None, Some, take}
use Rattle.disk_changes.specs.declared.changes.ChangeKind.{ChangeKind}
use Rattle.disk_changes.specs.declared.changes.ChangeKind.TheVariants as kinds
use Rattle.image_file.specs.paths.Rights.{Rights}
use Rattle.image_file.specs.paths.Standing.{Stands}
use Rattle.disk_changes.specs.Cvts.{content_of}
use Rattle.image_edits.specs.Columns.{text_in}
use Rattle.image_edits.specs.Containers.{file_in}
use Rattle.opened_files.specs.HostFiles.{OfImage, OfText}

-- they are those of the file that it names, if the host says its bytes: the file that it holds, a whole CVT, records in one column each, or
-- the image
abbrev pub IsSourceFor : {H : Type 0} → Rights H → (H → List ℕ → Stands) → H → ChangeKind → (source : List ℕ) → Type 0
IsSourceFor rights stands host (kinds.Put file kind name) source =
    OfText stands host file.now (λ all. file_in all ≡ Some source)
IsSourceFor rights stands host (kinds.PutGeos file name) source =
    OfText stands host file.now (λ all. (source ≡ all) × (content_of all ≢ None))
IsSourceFor rights stands host (kinds.CopyFile from name to) source =
    OfImage rights stands host from.now (λ all. source ≡ take 174849 all)
IsSourceFor rights stands host (kinds.Store records columns name) source =
    OfText stands host records.now (λ all. source ≡ text_in columns all)
IsSourceFor rights stands host _ source = ⊤
