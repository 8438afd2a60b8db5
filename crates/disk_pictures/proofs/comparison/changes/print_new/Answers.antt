-- The beginning and the end.
use Rattle.std.proofs.lemmas.Result.{on_ok_weaker}
use Rattle.std.proofs.KnownBytes.{Appends-trans}
use Rattle.disk_pictures.proofs.comparison.changes.print_new.Goals as goal

pub returns-clause-ok : goal.returns-clause-ok
returns-clause-ok g c = on_ok_weaker c.print_text-2.result
    (λ end. Appends-trans _ _ _ _ _ c.in_ok-print_text.ensures.ok end) c.print_text-2.ensures.ok
