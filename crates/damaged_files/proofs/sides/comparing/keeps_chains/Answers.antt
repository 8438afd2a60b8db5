-- The entries of the directory are those of the files.
use Rattle.std.proofs.Common.{subst, sym, ◌∙◌}
use Rattle.d64_image.specs.Images.{Image}
use Rattle.d64_image.specs.Memory.{disk_image}
use Rattle.layout_check.proofs.lemmas.mending.MapMends.{ok-holds}
use Rattle.damaged_files.proofs.lemmas.sides.Walks.{file-listed}
use Rattle.damaged_files.specs.sides.Compared.{SameChain}
use Rattle.damaged_files.proofs.sides.comparing.keeps_chains.Goals as goal

pub returns-then-is_ok-clause-told : goal.returns-then-is_ok-clause-told
returns-then-is_ok-clause-told c t l is f own =
    let listed = ok-holds c.read_directory.result _ (sym c.is_ok.ensures.value ∙ c.if-is_ok.true)
    c.read_directory.ensures.ok in
    let P : Image → Type 0 = λ i. SameChain (disk_image c.args.before.now) i f.slot in
    subst P c.read_directory.ensures.reads.image (c.keeps_each.ensures.told t f.slot
    (file-listed (disk_image c.args.after.now) l c.read_directory.new.slots.items c.as_slice.result.now
    c.as_slice.ensures.value is listed f own))
