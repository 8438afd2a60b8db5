-- The file goes on past track 35, or it is the disk's.
use Rattle.std.proofs.Common.{List, subst, sym, ℕ}
use Rattle.file_rescues.proofs.Long.{disk-part, disk-stopped, disk-taken, long-part, long-stopped, long-taken}
use Rattle.file_rescues.specs.Long.{IsFoundLong}
use Rattle.file_rescues.specs.declared.finding.Kind.TheVariants.{Any}
use Rattle.file_rescues.proofs.long_bytes.bytes_image.Goals as goal

pub returns-in-Some : goal.returns-in-Some
returns-in-Some g c =
    let found = subst (λ (ns : List ℕ). IsFoundLong c.args.image.now (Any c.args.candidates) c.args.name.now ns
    c.in-Some.file.apart c.in-Some.file.slot c.in-Some.file.left) (sym c.as_slice.ensures.value) (rw c.in-Some.is at c.in_ok-found.ensures.ok) in
    record {
      ok = long-taken g.W.Write.contents c.args.form c.args.candidates c.args.image.now c.args.name.now c.args.out.now
          c.print_long.new.out c.print_long.result _ _ _ _ found c.print_long.ensures.ok;
      err = long-stopped g.W.Write.contents c.args.form c.args.candidates c.args.image.now c.args.name.now c.args.out.now
          c.print_long.new.out c.print_long.result _ _ _ _ found c.print_long.ensures.err;
      part = long-part g.W.Write.contents c.args.form c.args.candidates c.args.image.now c.args.name.now c.args.out.now
          c.print_long.new.out c.print_long.result _ _ _ _ found c.print_long.ensures.part;
    }

pub returns-in-None : goal.returns-in-None
returns-in-None g c =
    let none = rw c.in-None.is at c.in_ok-found.ensures.ok in
    record {
      ok = disk-taken g.W.Write.contents c.args.form c.args.candidates c.args.image.now c.args.name.now c.args.out.now
          c.disk_bytes.new.out c.disk_bytes.result _ c.disk_in.ensures none c.disk_bytes.ensures.ok;
      err = disk-stopped g.W.Write.contents c.args.form c.args.candidates c.args.image.now c.args.name.now c.args.out.now
          c.disk_bytes.new.out c.disk_bytes.result _ c.disk_in.ensures none c.disk_bytes.ensures.err;
      part = disk-part g.W.Write.contents c.args.form c.args.candidates c.args.image.now c.args.name.now c.args.out.now
          c.disk_bytes.new.out c.disk_bytes.result _ c.disk_in.ensures c.disk_bytes.ensures.part;
    }
