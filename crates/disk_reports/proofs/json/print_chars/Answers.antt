-- A byte more was written.
use Rattle.std.proofs.Common.{rules}
use Rattle.disk_reports.proofs.Written.{text-more}
use Rattle.disk_reports.specs.Json.{json_char}
use Rattle.disk_reports.proofs.json.print_chars.Goals as goal

pub loop-byte-preserved : goal.loop-byte-preserved
loop-byte-preserved g c =
    text-more json_char _ _ _ c.args.bytes.now c.loop-byte.byte-index _ (search rules) (search rules)
    c.loop-byte.invariant c.in_ok-print_char.ensures
