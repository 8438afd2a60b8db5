-- The file goes on past track 35, or it is the disk's.
use Rattle.std.proofs.Common.{List, arith, ap, length, subst, sym, ℕ}
use Rattle.file_rescues.proofs.LongRecords.{disk-stopped, disk-taken, long-stopped, long-taken, records-there}
use Rattle.file_rescues.specs.Long.{IsFoundLong}
use Rattle.file_rescues.specs.declared.finding.Kind.TheVariants.{Records}
use Rattle.file_rescues.proofs.long_records.file_records_image.Goals as goal

pub print_long_records-requires-clause-records : goal.print_long_records-requires-clause-records
print_long_records-requires-clause-records g c =
    records-there c.args.candidates c.args.image.now c.args.name.now _ c.in-Some.file.apart c.in-Some.file.slot c.in-Some.file.left
    (rw c.in-Some.is at c.in_ok-found.ensures.ok)

pub returns-in-Some : goal.returns-in-Some
returns-in-Some g c =
    let found = subst (λ (ns : List ℕ). IsFoundLong c.args.image.now (Records c.args.candidates) c.args.name.now ns
    c.in-Some.file.apart c.in-Some.file.slot c.in-Some.file.left) (sym c.as_slice.ensures.value)
    (rw c.in-Some.is at c.in_ok-found.ensures.ok) in
    record {
      ok = long-taken g.W.Write.contents c.args.form c.args.candidates c.args.image.now c.args.name.now c.args.out.now
          c.print_long_records.new.out c.print_long_records.result _ _ _ _ found c.print_long_records.ensures.ok;
      err = long-stopped g.W.Write.contents c.args.form c.args.candidates c.args.image.now c.args.name.now c.args.out.now
          c.print_long_records.new.out c.print_long_records.result _ _ _ _ found c.print_long_records.ensures.err;
    }

pub returns-in-None : goal.returns-in-None
returns-in-None g c =
    let none = rw c.in-None.is at c.in_ok-found.ensures.ok in
    record {
      ok = disk-taken g.W.Write.contents c.args.form c.args.candidates c.args.image.now c.args.name.now c.args.out.now
          c.disk_records.new.out c.disk_records.result _ c.disk_in.ensures none c.disk_records.ensures.ok;
      err = disk-stopped g.W.Write.contents c.args.form c.args.candidates c.args.image.now c.args.name.now c.args.out.now
          c.disk_records.new.out c.disk_records.result _ c.disk_in.ensures none c.disk_records.ensures.err;
    }
