-- The repair of the disk in memory, and what it tells.
use Rattle.std.proofs.Common.{◌∙◌, ◌++◌, List, Some, ap, refl, ℕ}
use Rattle.disk_changes.specs.mended.Repairs.{mended_text}
use Rattle.d64_image.specs.Memory.{disk_image}
use Rattle.disk_changes.proofs.Repaired.{repair-done}
use Rattle.disk_changes.proofs.repairing.mended_image.Goals as goal

pub returns-in-Ok-clause-ok : goal.returns-in-Ok-clause-ok
returns-in-Ok-clause-ok c = repair-done c.args.image.now c.args.free c.in_ok-disk.disk c.repair_image.new.disk
    c.in_ok-disk.ensures.ok.0 c.in_ok-disk.ensures.ok.1 c.new-text.result (λ v. Some v.items) c.repair_image.new.out _ refl
    c.in-Ok.ensures.ok (c.in-Ok.ensures.ok.printed
    ∙ ap (λ (xs : List ℕ). xs ++ mended_text (disk_image c.in_ok-disk.disk) (disk_image c.repair_image.new.disk) c.in-Ok.left)
    c.new-text.ensures.items)
