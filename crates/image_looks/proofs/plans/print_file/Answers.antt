-- The name was written after what stands before it.
use Rattle.std.proofs.KnownBytes.{Appends-trans}
use Rattle.std.proofs.lemmas.Result.{on_ok_weaker}
use Rattle.image_looks.proofs.plans.print_file.Goals as goal

pub returns : goal.returns
returns g c =
    on_ok_weaker c.print_quoted_name.result (Appends-trans _ _ _ _ _ c.in_ok-print_before_hyphen.ensures)
    c.print_quoted_name.ensures
