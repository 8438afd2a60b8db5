-- The slots so far have no entry.
use Rattle.std.proofs.Common.{◌≡◌, drop}
use Rattle.std.specs.List.{list_any}
use Rattle.disk_layout.specs.Directory.{is_used, slots_in}
use Rattle.file_rescues.proofs.rescue.scanning.has_entry.Given as goal

abbrev pub invariant-loop-number : goal.invariant-loop-number
invariant-loop-number l = record {
  rest : list_any is_used (slots_in l.place l.bytes) ≡ list_any is_used (drop l.number (slots_in l.place l.bytes));
}
