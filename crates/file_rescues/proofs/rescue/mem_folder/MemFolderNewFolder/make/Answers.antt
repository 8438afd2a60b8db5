-- The folder has what it had, or one file more.
use Rattle.std.proofs.Common.{Some, sym, [], ◌∷◌}
use Rattle.file_rescues.proofs.lemmas.rescue.Parts.{lacks, none-added, not-pushed, on-err}
use Rattle.file_rescues.specs.rescue.Folders.{new_file}
use Rattle.file_rescues.specs.rescue.Memory.{files_in}
use Rattle.file_rescues.proofs.rescue.mem_folder.MemFolderNewFolder.make.Goals as goal

pub returns-then-has-clause-part : goal.returns-then-has-clause-part
returns-then-has-clause-part c =
    none-added (Some (files_in c.args.self.now)) (new_file c.args.name.now c.args.bytes.now ∷ [])

pub returns-in_err-file-clause-part : goal.returns-in_err-file-clause-part
returns-in_err-file-clause-part c =
    on-err c.from_residual.result
    (none-added (Some (files_in c.args.self.now)) (new_file c.args.name.now c.args.bytes.now ∷ []))

pub returns-then-is_err-clause-part : goal.returns-then-is_err-clause-part
returns-then-is_err-clause-part c =
    not-pushed _ _ _ _ c.args.self.now.files.items (new_file c.args.name.now c.args.bytes.now) c.if-is_err.true
    c.is_err.ensures.negation c.push.ensures.items

pub returns-clause-free : goal.returns-clause-free
returns-clause-free c =
    lacks c.args.self.now.files.items c.args.name.now c.has.result c.if-has.false (rw (sym c.as_slice.ensures.value) c.has.ensures.1)
