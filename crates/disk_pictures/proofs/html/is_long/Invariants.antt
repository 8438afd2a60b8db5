-- How many the bytes so far take.
use Rattle.std.proofs.Common.{◌≡◌, ◌≤◌, length, take}
use Rattle.std.specs.Prelude.{flat_map}
use Rattle.disk_pictures.specs.Html.{html_byte}
use Rattle.disk_pictures.proofs.html.is_long.Given as goal

abbrev pub invariant-loop-byte : goal.invariant-loop-byte
invariant-loop-byte l = record {
  so_far : l.count ≡ length (flat_map html_byte (take l.byte-index l.bytes));
  few : l.count ≤ 48;
}
