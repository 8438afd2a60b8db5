-- All 127 records.
use Rattle.std.proofs.Common.{◌≡◌, ◌∙◌, ap, arith}
use Rattle.disk_changes.specs.Cvts.{last_index}
use Rattle.disk_changes.proofs.cvts.last_index.Goals as goal

pub returns-clause-value : goal.returns-clause-value
returns-clause-value c =
    let all : c.loop-number.number ≡ 127 = omega arith in
    c.loop-number.invariant ∙ ap (last_index c.args.bytes.now) all
