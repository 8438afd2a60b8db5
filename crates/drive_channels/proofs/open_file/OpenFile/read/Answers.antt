-- A read through the file opened last; where its channel isn't the one, nothing is done.
use Rattle.std.proofs.Common.{arith, refl, None, Some}
use Rattle.std.proofs.lemmas.Result.{IfOk-weaker, on_ok_weaker}
use Rattle.d64_image.proofs.Moments.{no_reads, reads_weaker}
use Rattle.drive_channels.proofs.Rows.{read-on}
use Rattle.drive_channels.proofs.Steady.{known-moved}
use Rattle.drive_channels.proofs.Written.{closed-read, none-open, on-spot, other-open, parts-of, still-known}
use Rattle.drive_channels.proofs.open_file.OpenFile.read.Goals as goal

pub returns-then-spot-channel : goal.returns-then-spot-channel
returns-then-spot-channel g c = λ k is known.
    record {
      row =
          IfOk-weaker c.read_at.result _ _
          (λ status row s. read-on (g.D.Sectors.history.image c.args.disk.now) c.args.self.now.found
          c.in-Some.spot c.args.channel k _ s _
          (parts-of k c.args.self.now _ is c.in-Some.is) c.if-spot-channel.true (row s k.checked))
          c.read_at.ensures.row;
      known = on_ok_weaker c.read_at.result
          (λ spot. known-moved (g.D.Sectors.history.image c.args.disk.now) k c.args.self.now
          (Some c.read_at.new.spot) is known spot)
          c.read_at.ensures.spot;
      reads = c.read_at.ensures.reads;
      failures = c.read_at.ensures.failures;
    }

pub read_at-requires : goal.read_at-requires
read_at-requires g c =
    let k = c.requires.0 in
    let known = on-spot (g.D.Sectors.history.image c.args.disk.now) k c.args.self.now.found c.in-Some.spot
    c.requires.2 (parts-of k c.args.self.now _ c.requires.1 c.in-Some.is) in
    record { found = known.1; spot = known.2 }

pub returns-else-spot-channel : goal.returns-else-spot-channel
returns-else-spot-channel g c = λ k is known.
    let S = g.D.Sectors.history in
    let at = parts-of k c.args.self.now _ is c.in-Some.is in
    let closed = other-open c.args.self.now.found c.in-Some.spot k.last c.args.channel at c.if-spot-channel.false in
    record {
      row = λ s. closed-read (S.image c.args.disk.now) k _ c.args.channel c.clear.new.self.items s at closed
          c.clear.ensures;
      known = still-known (S.image c.args.disk.now) k _ at known;
      reads = reads_weaker S c.args.disk.now c.args.disk.now 0 3 (omega arith) (no_reads S c.args.disk.now);
      failures = refl;
    }

pub returns-in_default : goal.returns-in_default
returns-in_default g c = λ k is known.
    let S = g.D.Sectors.history in
    let closed = none-open c.args.self.now.found k.last c.args.channel (parts-of k c.args.self.now None is
    c.in_default.is) in
    record {
      row = λ s. closed-read (S.image c.args.disk.now) k _ c.args.channel c.clear.new.self.items s is closed
          c.clear.ensures;
      known = still-known (S.image c.args.disk.now) k _ is known;
      reads = reads_weaker S c.args.disk.now c.args.disk.now 0 3 (omega arith) (no_reads S c.args.disk.now);
      failures = refl;
    }
