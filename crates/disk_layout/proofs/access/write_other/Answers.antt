-- The sector is right already, or it is written.
use Rattle.std.proofs.Common.{ap, not}
use Rattle.disk_layout.proofs.access.write_other.Goals as goal
use Rattle.disk_layout.proofs.lemmas.kept.OtherWrites.{equal-bytes, other-bytes, other_written, unwritten}

pub returns-then-eq-clause-write : goal.returns-then-eq-clause-write
returns-then-eq-clause-write g c = unwritten g.D.Sectors.history c.args.disk.now c.args.place c.args.had.now
    c.args.wanted.now _ tt c.requires (equal-bytes c.args.had.now c.args.wanted.now c.eq.result c.eq.ensures
    c.if-eq.true)

pub returns-clause-once : goal.returns-clause-once
returns-clause-once g c =
    let other = other-bytes c.args.had.now c.args.wanted.now (not c.eq.result) (ap not c.eq.ensures)
    (ap not c.if-eq.false) in
    other_written g.D.Sectors.history c.args.disk.now c.write_sector.new.disk c.args.place c.args.had.now
    c.args.wanted.now _ c.write_sector.result c.requires other c.write_sector.ensures
