-- A byte more was written.
use Rattle.std.proofs.Common.{rules}
use Rattle.disk_reports.proofs.Written.{text-more}
use Rattle.disk_reports.specs.Rows.{field_char}
use Rattle.disk_reports.proofs.rows.print_field_chars.Goals as goal

pub loop-byte-preserved : goal.loop-byte-preserved
loop-byte-preserved g c =
    text-more field_char _ _ _ c.args.bytes.now c.loop-byte.byte-index _ (search rules) (search rules)
    c.loop-byte.invariant c.in_ok-print_field_char.ensures
