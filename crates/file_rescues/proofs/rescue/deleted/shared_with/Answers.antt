-- The file's own blocks are counted too.
use Rattle.std.proofs.Common.{ap, ◌++◌, ◌∷◌, [], ◌∙◌}
use Rattle.damaged_files.specs.reached.Sharing.{first_shared}
use Rattle.file_rescues.proofs.lemmas.rescue.Undeleted.{counted-one}
use Rattle.file_rescues.specs.rescue.Sharing.{owned}
use Rattle.file_rescues.proofs.rescue.deleted.shared_with.Goals as goal

pub returns : goal.returns
returns c =
    let all = owned c.args.directory.now (c.args.files.now ++ c.args.file.now ∷ []) in
    c.first_shared.ensures all (counted-one c.args.directory.now c.args.files.now c.args.file.now c.owners_of-owners.result
    c.add.new.self c.owners_of-owners.ensures (rw c.as_slice-blocks.ensures.value at c.add.ensures))
    ∙ ap (first_shared all) c.as_slice-blocks.ensures.value
