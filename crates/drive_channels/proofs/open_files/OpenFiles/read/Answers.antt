-- A read through the file opened last, where there is one.
use Rattle.std.proofs.Common.{arith, refl}
use Rattle.d64_image.proofs.Moments.{no_reads, reads_weaker}
use Rattle.drive_channels.proofs.Written.{closed-read, no-file}
use Rattle.drive_channels.proofs.open_files.OpenFiles.read.Goals as goal

pub read-requires : goal.read-requires
read-requires g c = (c.args.self.now, c.in-Some.is, c.requires.known)

pub returns-in-Some : goal.returns-in-Some
returns-in-Some g c = c.read.ensures c.args.self.now c.in-Some.is c.requires.known

pub returns : goal.returns
returns g c =
    let S = g.D.Sectors.history in
    let k = c.args.self.now in
    let closed = no-file c.args.self.now.last c.args.channel c.in_default.is in
    record {
      row = λ s. closed-read (S.image c.args.disk.now) k _ c.args.channel c.clear.new.self.items s refl closed
          c.clear.ensures;
      known = c.requires.known;
      reads = reads_weaker S c.args.disk.now c.args.disk.now 0 3 (omega arith) (no_reads S c.args.disk.now);
      failures = refl;
    }
