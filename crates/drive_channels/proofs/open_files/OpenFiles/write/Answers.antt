-- A write through the file opened last, where there is one.
use Rattle.std.proofs.Common.{arith, refl, ◌≡◌}
use Rattle.drive_channels.proofs.Written.{closed-row, no-file, not-written}
use Rattle.drive_channels.specs.Inside.{channel_of}
use Rattle.drive_channels.specs.declared.status.Status.TheVariants.{FileNotOpen, FileTooLarge}
use Rattle.drive_channels.proofs.open_files.OpenFiles.write.Goals as goal

other-status : FileNotOpen ≡ FileTooLarge → ⊥
other-status e = cc

pub write-requires : goal.write-requires
write-requires g c = (c.args.self.now, c.in-Some.is, c.requires.known)

pub returns-in-Some : goal.returns-in-Some
returns-in-Some g c = c.write.ensures c.args.self.now c.in-Some.is c.requires.known

pub returns : goal.returns
returns g c =
    let S = g.D.Sectors.history in
    let k = c.args.self.now in
    let closed = no-file c.args.self.now.last c.args.channel c.in_default.is in
    record {
      row = λ s. closed-row (S.image c.args.disk.now) k _ c.args.channel c.args.text.now s refl closed;
      known = c.requires.known;
      writes = not-written S c.args.channel c.args.text.now _ c.args.disk.now (channel_of k.last) closed;
      refused = λ e. absurd (other-status e);
      reads = omega arith;
      failures = refl;
    }
