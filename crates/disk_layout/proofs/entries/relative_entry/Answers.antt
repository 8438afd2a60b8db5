-- The parts of the entry, one after another.
use Rattle.std.proofs.Common.{append-nil}
use Rattle.disk_layout.specs.Entries.{rel_entry}
use Rattle.disk_layout.proofs.entries.relative_entry.Goals as goal

pub returns : goal.returns
unfolding rel_entry
returns c = cc (
  c.track.ensures,
  c.sector.ensures,
  c.track-2.ensures,
  c.sector-2.ensures,
  c.copy_from_slice.ensures.after,
  c.padded_name.ensures,
  c.write_u16.ensures,
  append-nil c.write_u16.new.buf,
)
