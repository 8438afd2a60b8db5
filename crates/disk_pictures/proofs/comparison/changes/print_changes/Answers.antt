-- The second disk's entries, then those that are gone.
use Rattle.std.proofs.lemmas.Result.{on_ok_weaker}
use Rattle.std.proofs.KnownBytes.{Appends-trans}
use Rattle.disk_pictures.specs.ComparedPages.{changes_text}
use Rattle.disk_pictures.proofs.comparison.changes.print_changes.Goals as goal

pub returns-clause-ok : goal.returns-clause-ok
unfolding changes_text
returns-clause-ok g c = on_ok_weaker c.print_formers.result
    (λ end. Appends-trans _ _ _ _ _ c.in_ok-print_entries.ensures.ok end) c.print_formers.ensures.ok
