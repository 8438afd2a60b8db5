use Rattle.std.proofs.Common.{ℕ, Bool, List, IfOk, subst}
use Rattle.drive_channels.proofs.Writes.{no-text}
use Rattle.drive_channels.proofs.writing.write_at.Goals as goal
use Rattle.drive_channels.specs.Inside.{at_spot, channel_at}
use Rattle.drive_channels.specs.Moments.{IsWrittenAt}
use Rattle.drive_channels.specs.Tables.{InFile, WritesIn}
use Rattle.drive_channels.specs.declared.status.Status.{Status}
use Rattle.rel_records.specs.File.{entry_of}

pub returns-then-is_empty : goal.returns-then-is_empty
returns-then-is_empty g c = record {
  row = let img = g.D.Sectors.history.image in
      subst (λ (text : List ℕ). IfOk c.grow_at.result (λ status. (s : Status) → (b : Bool)
      → InFile (at_spot (img c.args.disk.now) c.args.found.now c.args.spot.now s b)
      (WritesIn (at_spot (img c.args.disk.now) c.args.found.now c.args.spot.now s b) text
      (at_spot (img c.grow_at.new.disk) c.grow_at.new.found c.args.spot.now status b))))
      (no-text c.args.text.now c.is_empty.result c.is_empty.ensures c.if-is_empty.true) c.grow_at.ensures.row;
  found = c.grow_at.ensures.found;
  spot = c.grow_at.ensures.spot;
  writes = λ l f rel.
      subst (λ (text : List ℕ). IsWrittenAt g.D.Sectors.history c.args.disk.now c.grow_at.new.disk
      (channel_at (entry_of c.args.found.now.file) c.args.spot.now) l f text c.grow_at.result)
      (no-text c.args.text.now c.is_empty.result c.is_empty.ensures c.if-is_empty.true)
      (c.grow_at.ensures.writes l f rel);
  refused = c.grow_at.ensures.refused;
  reads = c.grow_at.ensures.reads;
  failures = c.grow_at.ensures.failures;
}

pub returns : goal.returns
returns g c = record {
  row = c.write_text.ensures.row;
  found = c.write_text.ensures.found;
  spot = c.write_text.ensures.spot;
  writes = c.write_text.ensures.writes;
  refused = c.write_text.ensures.refused;
  reads = c.write_text.ensures.reads;
  failures = c.write_text.ensures.failures;
}
