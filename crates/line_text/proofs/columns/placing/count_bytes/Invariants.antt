-- The bytes so far and those of the rest are all.
use Rattle.std.proofs.Common.{◌≡◌, ◌≤◌, ◌+◌, drop}
use Rattle.line_text.specs.columns.Pieces.{byte_count}
use Rattle.line_text.proofs.columns.placing.count_bytes.Given as goal

abbrev pub invariant-loop-byte : goal.invariant-loop-byte
invariant-loop-byte l = (l.count + byte_count l.digits (drop l.byte-index l.text) ≡ byte_count 0 l.text)
    × (l.count ≤ l.byte-index)
