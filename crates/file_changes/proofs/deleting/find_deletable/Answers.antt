-- The entries are listed, and one of them is chosen.
use Rattle.std.proofs.Common.{◌∙◌}
use Rattle.file_changes.proofs.DeleteCalls.{found-deletable}
use Rattle.file_changes.proofs.deleting.find_deletable.Goals as goal

pub returns : goal.returns
returns g c = found-deletable g.D.Sectors.history c.args.disk.now c.list_entries.new.disk c.args.name.now
    c.as_slice.result.now c.padded_name.result c.padded_name.ensures
    (λ l h. c.as_slice.ensures.value ∙ c.in_ok-list_entries.ensures.ok l h) c.list_entries.ensures.reads
    c.in_ok-list_entries.ensures.failures c.choose_deletable.result c.choose_deletable.ensures.ok
    c.choose_deletable.ensures.not_found c.choose_deletable.ensures.locked c.choose_deletable.ensures.told
