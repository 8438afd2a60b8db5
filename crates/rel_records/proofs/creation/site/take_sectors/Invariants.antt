use Rattle.std.proofs.Common.{◌≡◌, ◌+◌, length}
use Rattle.disk_layout.specs.View.{blocks_free}
use Rattle.rel_records.specs.creation.Site.{TakesSectors}
use Rattle.rel_records.proofs.creation.site.take_sectors.Given as goal

abbrev pub invariant-loop : goal.invariant-loop
invariant-loop l = record {
  taken : TakesSectors l.fn.map.bytes l.map.bytes l.places.items;
  count : length l.places.items ≡ l.counter;
  free : blocks_free l.map.bytes + l.counter ≡ blocks_free l.fn.map.bytes;
}
