-- The records below the loop's are begun, and all other bytes stay.
use Rattle.std.proofs.Common.{ℕ, slice_index, ◌+◌, ◌-◌, ◌*◌, ◌<◌, ◌≡◌, ◌≢◌, ◌≤◌}
use Rattle.disk_layout.proofs.filling.start_records.Given as goal

abbrev pub invariant-loop-record : goal.invariant-loop-record
invariant-loop-record l = record {
  below : l.begin < l.record → l.record ≤ l.end;
  begun : (r : ℕ) → l.begin ≤ r → r < l.record → slice_index l.bytes (2 + (r * l.size - l.at)) ≡ 255;
  rest : (k : ℕ) → ((r : ℕ) → l.begin ≤ r → r < l.record → k ≢ 2 + (r * l.size - l.at))
      → slice_index l.bytes k ≡ slice_index l.fn.bytes k;
}
