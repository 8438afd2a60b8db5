-- The file grows where it has to, and then the record is written.
use Rattle.std.proofs.Common.{arith}
use Rattle.rel_records.proofs.lemmas.Usable.{still-usable}
use Rattle.rel_records.proofs.lemmas.writing.Puts.{passes}
use Rattle.rel_records.proofs.lemmas.writing.Recorded.{growth-refused, put-fails, put-told}
use Rattle.rel_records.specs.Calls.{WritesRecord}
use Rattle.rel_records.proofs.writing.write_record.Goals as goal

pub write_there-requires : goal.write_there-requires
write_there-requires g c =
    let (l, n, f, of) = c.requires.of in
    let h = (c.in_ok-grow_to.ensures.file l n f of).ok in
    record {
      usable = still-usable _ _ l h.layout of.layout c.requires.usable h.clean;
      of = (h.layout, n, h.file, h.of);
      low = c.requires.number;
      high = c.in_ok-grow_to.ensures.there;
      position_low = c.requires.position_low;
      position_high = omega (arith, c.requires.position_high, c.in_ok-grow_to.ensures.same);
    }

pub returns-in_err-grow_to : goal.returns-in_err-grow_to
returns-in_err-grow_to g c =
    let S = g.D.Sectors.history in
    passes (WritesRecord S c.args.disk.now c.grow_to.new.disk c.args.file.now c.grow_to.new.file c.args.number
    c.args.position c.args.text.now) c.from_residual.result _ c.from_residual.ensures.1
    (growth-refused S c.args.disk.now c.grow_to.new.disk c.args.file.now c.grow_to.new.file c.args.number
    c.args.position c.args.text.now _ c.in_err-grow_to.ensures)

pub returns-in_err-write_there : goal.returns-in_err-write_there
returns-in_err-write_there g c =
    let S = g.D.Sectors.history in
    passes (WritesRecord S c.args.disk.now c.write_there.new.disk c.args.file.now c.grow_to.new.file c.args.number
    c.args.position c.args.text.now) c.from_residual-in_err-write_there.result _
    c.from_residual-in_err-write_there.ensures.1
    (put-fails S c.args.disk.now c.grow_to.new.disk c.write_there.new.disk c.args.file.now c.grow_to.new.file
    c.args.number c.args.position c.args.text.now _ c.in_ok-grow_to.ensures _ c.in_err-write_there.ensures)

pub returns : goal.returns
returns g c =
    put-told g.D.Sectors.history c.args.disk.now c.grow_to.new.disk c.write_there.new.disk c.args.file.now
    c.grow_to.new.file c.args.number c.args.position c.args.text.now _ c.in_ok-grow_to.ensures _ c.told_of_text.result
    c.in_ok-write_there.ensures c.requires.of c.requires.number c.told_of_text.ensures.ok c.told_of_text.ensures.err
