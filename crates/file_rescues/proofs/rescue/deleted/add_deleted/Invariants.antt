-- The deleted entries so far.
use Rattle.std.proofs.Common.{take, ◌+◌, ◌++◌, ◌≡◌, ◌≤◌}
use Rattle.std.specs.Prelude.{filter}
use Rattle.arrayvec.specs.ArrayVec.{array_vec_len}
use Rattle.disk_layout.specs.Directory.{slots_in}
use Rattle.file_rescues.specs.rescue.Deleted.{is_deleted}
use Rattle.file_rescues.proofs.rescue.deleted.add_deleted.Given as goal

abbrev pub invariant-loop-number : goal.invariant-loop-number
invariant-loop-number l = record {
  items : l.entries.items ≡ l.fn.entries.items ++ filter is_deleted (take l.number (slots_in l.place l.bytes));
  room : array_vec_len l.entries ≤ array_vec_len l.fn.entries + l.number;
}
