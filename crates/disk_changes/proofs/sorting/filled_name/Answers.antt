-- The name's bytes, and what is left of the zeros.
use Rattle.std.proofs.Common.{List, ℕ, ap, ap₂, length, replicate, ◌++◌, ◌-◌, ◌∙◌}
use Rattle.std.proofs.lemmas.List.{drop-replicate}
use Rattle.disk_changes.proofs.sorting.filled_name.Goals as goal

pub returns : goal.returns
returns c =
    let name = c.entry_name-name in
    ap₂ ◌++◌ (c.copy_from_slice.ensures.after ∙ name.ensures.name) (drop-replicate (length name.result.now) 16 0
    ∙ ap (λ (bytes : List ℕ). replicate (16 - length bytes) 0) name.ensures.name)
