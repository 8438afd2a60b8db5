-- The slots so far are such slots.
use Rattle.std.proofs.Common.{◌≡◌, drop}
use Rattle.std.specs.List.{list_all}
use Rattle.disk_layout.specs.Directory.{slots_in}
use Rattle.file_rescues.specs.rescue.Scanned.{is_slot}
use Rattle.file_rescues.proofs.rescue.scanning.are_slots.Given as goal

abbrev pub invariant-loop-number : goal.invariant-loop-number
invariant-loop-number l = record {
  rest : list_all is_slot (slots_in l.place l.bytes) ≡ list_all is_slot (drop l.number (slots_in l.place l.bytes));
}
