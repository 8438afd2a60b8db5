-- A byte more was written.
use Rattle.std.proofs.Common.{rules}
use Rattle.disk_reports.proofs.Written.{text-more}
use Rattle.image_looks.specs.Plans.{quoted_char}
use Rattle.image_looks.proofs.plans.print_quoted_chars.Goals as goal

pub loop-byte-preserved : goal.loop-byte-preserved
loop-byte-preserved g c =
    text-more quoted_char _ _ _ c.args.name.now c.loop-byte.byte-index _ (search rules) (search rules)
    c.loop-byte.invariant c.in_ok-print_quoted_char.ensures
