-- The bytes, and what is left of the zeros.
use Rattle.std.proofs.Common.{◌++◌, ◌-◌, ◌∙◌, ℕ, ap, ap₂, arith, length-take, replicate}
use Rattle.std.proofs.lemmas.List.{drop-replicate}
use Rattle.disk_layout.proofs.lemmas.lists.Listed.{take-min}
use Rattle.disk_layout.specs.Side.{padded}
use Rattle.file_changes.proofs.put_sectors.padded_data.Goals as goal

pub returns : goal.returns
unfolding padded
returns c = ap₂ ◌++◌ (c.copy_from_slice.ensures.after ∙ take-min c.args.content.now 254 c.min-used.result c.min-used.ensures)
    (drop-replicate c.min-used.result 254 0
    ∙ ap (λ (n : ℕ). replicate (254 - n) 0) (omega (arith, length-take 254 c.args.content.now, c.min-used.ensures)))
