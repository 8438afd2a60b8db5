-- The digits of a byte more were written.
use Rattle.std.proofs.Common.{rules}
use Rattle.disk_reports.proofs.Written.{text-more}
use Rattle.disk_reports.specs.Json.{digits}
use Rattle.disk_reports.proofs.json.print_hex.Goals as goal

pub loop-byte-preserved : goal.loop-byte-preserved
loop-byte-preserved g c =
    text-more digits _ _ _ c.args.bytes.now c.loop-byte.byte-index _ (search rules) (search rules)
    c.loop-byte.invariant c.in_ok-print_digits.ensures
