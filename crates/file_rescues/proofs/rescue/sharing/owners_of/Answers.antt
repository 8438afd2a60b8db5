-- The blocks of one file more.
use Rattle.std.proofs.Common.{sym}
use Rattle.file_rescues.proofs.lemmas.rescue.Counts.{counted-all, counted-more, counted-none}
use Rattle.file_rescues.proofs.rescue.sharing.owners_of.Goals as goal

pub loop-file-init : goal.loop-file-init
loop-file-init c = counted-none c.args.directory.now c.of_directory-owners.result c.of_directory-owners.ensures

pub loop-file-preserved : goal.loop-file-preserved
loop-file-preserved c = counted-more c.args.directory.now c.loop-file.file-index c.args.files.now c.file-item.result
    c.loop-file.owners c.add.new.self c.loop-file-test.true (sym c.file-item.is) c.loop-file.invariant
    (rw c.as_slice.ensures.value at c.add.ensures)

pub returns : goal.returns
returns c = counted-all c.args.directory.now c.loop-file.file-index c.args.files.now c.loop-file.owners
    c.loop-file-test.false c.loop-file.invariant
