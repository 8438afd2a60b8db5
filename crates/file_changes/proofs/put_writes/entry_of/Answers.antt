-- The parts of the entry, one after another.
use Rattle.std.proofs.Common.{append-nil}
use Rattle.file_changes.specs.Puts.{plain_entry}
use Rattle.file_changes.proofs.put_writes.entry_of.Goals as goal

pub returns : goal.returns
unfolding plain_entry
returns c = cc (
  c.type_byte.ensures,
  c.track.ensures,
  c.sector.ensures,
  c.copy_from_slice.ensures.after,
  c.padded_name.ensures,
  c.write_u16.ensures,
  append-nil c.write_u16.new.buf,
)
