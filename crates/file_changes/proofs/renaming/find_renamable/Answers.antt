-- The entries are listed, and one of them is chosen.
use Rattle.file_changes.proofs.RenameCalls.{found}
use Rattle.file_changes.proofs.renaming.find_renamable.Goals as goal
use Rattle.std.proofs.Common.{◌∙◌}

pub returns : goal.returns
returns g c = found g.D.Sectors.history c.args.disk.now c.list_entries.new.disk c.args.from.now c.args.to.now
    c.as_slice.result.now c.padded_name.result c.padded_name-2.result c.padded_name.ensures c.padded_name-2.ensures
    (λ l h. c.as_slice.ensures.value ∙ c.in_ok-list_entries.ensures.ok l h) c.list_entries.ensures.reads
    c.in_ok-list_entries.ensures.failures c.choose.result c.choose.ensures.ok c.choose.ensures.not_found
    c.choose.ensures.exists c.choose.ensures.told
