-- The side sector that is named behind it, as it was read.
use Rattle.std.proofs.Common.{ap, ◌∙◌, List, ℕ}
use Rattle.d64_image.specs.Memory.{disk_image}
use Rattle.disk_layout.specs.Chain.{named_at}
use Rattle.damaged_files.proofs.lemmas.cut.Sides.{behind-judged}
use Rattle.damaged_files.proofs.cut.listed.lists_one_behind.Goals as goal

pub returns-in-Some : goal.returns-in-Some
returns-in-Some c = behind-judged (disk_image c.args.disk.now) c.args.bytes.now c.sector.result.now c.in-Some.next
    c.lists_one.result (c.in-Some.ensures ∙ ap (λ (bs : List ℕ). named_at bs 0) c.new.ensures)
    c.sector.ensures c.lists_one.ensures
