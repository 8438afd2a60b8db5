-- A write through the file opened last; where its channel isn't the one, nothing is done.
use Rattle.std.proofs.Common.{arith, refl, None, ◌≡◌}
use Rattle.std.proofs.lemmas.Result.{IfOk-weaker}
use Rattle.drive_channels.proofs.Written.{
  known-written,
  on-both,
  write-on,
  written-on,
  closed-row,
  none-open,
  not-written,
  on-spot,
  other-open,
  parts-of,
  still-known,
}
use Rattle.drive_channels.specs.Inside.{channel_of}
use Rattle.drive_channels.specs.declared.status.Status.TheVariants.{FileNotOpen, FileTooLarge}
use Rattle.drive_channels.proofs.open_file.OpenFile.write.Goals as goal

other-status : FileNotOpen ≡ FileTooLarge → ⊥
other-status e = cc

pub write_at-requires : goal.write_at-requires
write_at-requires g c =
    let k = c.requires.0 in
    let known = on-spot (g.D.Sectors.history.image c.args.disk.now) k c.args.self.now.found c.in-Some.spot
    c.requires.2 (parts-of k c.args.self.now _ c.requires.1 c.in-Some.is) in
    record { clean = known.0; found = known.1; spot = known.2 }

pub returns-then-spot-channel : goal.returns-then-spot-channel
returns-then-spot-channel g c = λ k last known.
    let S = g.D.Sectors.history in
    let e = c.args.self.now.found in
    let is = parts-of k c.args.self.now _ last c.in-Some.is in
    let on = c.if-spot-channel.true in
    record {
      row = IfOk-weaker c.write_at.result _ _
          (λ status row s. write-on (S.image c.args.disk.now) e c.in-Some.spot c.args.channel k _ s _ is on
          (row s k.checked))
          c.write_at.ensures.row;
      known = on-both c.write_at.result
          (λ keeps spot. known-written _ _ k c.args.self.now c.write_at.new.found c.write_at.new.spot last known keeps
          spot)
          c.write_at.ensures.found c.write_at.ensures.spot;
      writes = written-on S c.args.channel c.args.text.now _ _ _ e c.in-Some.spot k.last is on
          c.write_at.ensures.writes;
      refused = c.write_at.ensures.refused;
      reads = c.write_at.ensures.reads;
      failures = c.write_at.ensures.failures;
    }

pub returns-else-spot-channel : goal.returns-else-spot-channel
returns-else-spot-channel g c = λ k last known.
    let S = g.D.Sectors.history in
    let is = parts-of k c.args.self.now _ last c.in-Some.is in
    let closed = other-open c.args.self.now.found c.in-Some.spot k.last c.args.channel is c.if-spot-channel.false in
    record {
      row = λ s. closed-row (S.image c.args.disk.now) k _ c.args.channel c.args.text.now s is closed;
      known = still-known (S.image c.args.disk.now) k _ is known;
      writes = not-written S c.args.channel c.args.text.now _ c.args.disk.now (channel_of k.last) closed;
      refused = λ e. absurd (other-status e);
      reads = omega arith;
      failures = refl;
    }

pub returns-in_default : goal.returns-in_default
returns-in_default g c = λ k last known.
    let S = g.D.Sectors.history in
    let closed = none-open c.args.self.now.found k.last c.args.channel
    (parts-of k c.args.self.now None last c.in_default.is) in
    record {
      row = λ s. closed-row (S.image c.args.disk.now) k _ c.args.channel c.args.text.now s last closed;
      known = still-known (S.image c.args.disk.now) k _ last known;
      writes = not-written S c.args.channel c.args.text.now _ c.args.disk.now (channel_of k.last) closed;
      refused = λ e. absurd (other-status e);
      reads = omega arith;
      failures = refl;
    }
