-- A file that isn't there is made, or the reason why it can't be is told.
use Rattle.std.proofs.Common.{◌≡◌, ◌⊎◌, inl, inr, None, Some, ap₂, refl}
use Rattle.drive_channels.proofs.Opens.{full-row, known-made, known-still, made-row, makes-of, taken-row}
use Rattle.drive_channels.proofs.Refusals.{calm, device-failed}
use Rattle.drive_channels.proofs.open_files.OpenFiles.make.Goals as goal
use Rattle.drive_channels.specs.Inside.{channel_at}
use Rattle.drive_channels.specs.declared.open_file.Position.{Position}
use Rattle.drive_channels.specs.declared.status.Status.TheVariants as statuses
use Rattle.rel_records.proofs.lemmas.Usable.{clean-usable}
use Rattle.rel_records.specs.File.{entry_of}
use Rattle.rel_records.specs.declared.faults.RelFault.{RelFault}
use Rattle.rel_records.specs.declared.faults.RelFault.TheVariants as faults
use Rattle.rel_records.specs.declared.rel_file.RelFile.{RelFile}

exists-device : (e : RelFault) → e ≡ faults.Exists → e ≡ faults.Device → ⊥
exists-device e a b = cc

taken-ok : statuses.TypeMismatch ≡ statuses.Ok → ⊥
taken-ok h = cc

full-ok : statuses.DiskFull ≡ statuses.Ok → ⊥
full-ok h = cc

ok-ok : ¬ (statuses.Ok ≡ statuses.Ok) → ⊥
ok-ok h = h refl

pub returns-in-Ok : goal.returns-in-Ok
returns-in-Ok g c =
    let S = g.D.Sectors.history in
    let clean = (c.requires.known.remembered c.requires.checked).clean in
    let made = (c.in-Ok.ensures.layout clean.0 clean.1.layout).ok in
    record {
      row = λ s. made-row (S.image c.args.disk.now) c.args.self.now c.args.name.now c.requires.missing c.args.channel s
          c.args.size _
          (record {
            last = Some (record { found = c.new.result; spot = Some c.first.result });
            before = None;
            checked = c.args.self.now.checked;
          }) (entry_of c.in-Ok.file)
          (λ h. ((c.in-Ok.ensures.refuses.layout h.0 h.1).fits).1 h.2)
          (λ h. ((c.in-Ok.ensures.refuses.layout h.0 h.1).fits).0 h.2)
          (makes-of _ _ clean.0 c.args.name.now c.args.size c.in-Ok.file clean.1.layout made)
          (ap₂ (λ (v : RelFile) (s : Position). Some (channel_at (entry_of v) s)) c.new.ensures.file c.first.ensures) refl;
      known = known-made _ _ clean.0 c.args.name.now c.args.size c.in-Ok.file c.new.result c.first.result c.args.channel
          clean.1 made
          ((c.in-Ok.ensures.refuses.layout clean.0 clean.1.layout).fits).1 c.new.ensures.file c.new.ensures.name
          c.requires.name c.first.ensures
          c.requires.channel.low c.requires.channel.high c.args.self.now.checked c.requires.checked;
      refused = λ other. absurd (ok-ok other);
      opened = λ _. refl;
      reads = c.in-Ok.ensures.reads;
      moments = λ l h. (c.in-Ok.ensures.layout l h).moments;
      failures = c.in-Ok.ensures.refuses.failures;
    }

pub returns-in-Exists : goal.returns-in-Exists
returns-in-Exists g c =
    let S = g.D.Sectors.history in
    let clean = (c.requires.known.remembered c.requires.checked).clean in
    let other = exists-device c.in-Err.fault c.in-Exists.is in
    let reads = c.in-Err.ensures.refuses.refused other in
    record {
      row = λ s. taken-row (S.image c.args.disk.now) c.args.self.now c.args.name.now c.requires.missing c.args.channel s
          c.args.size _ reads.image
          (clean.0, clean.1.layout, (c.in-Err.ensures.refuses.layout clean.0 clean.1.layout).exists c.in-Exists.is);
      known = known-still _ _ c.args.self.now reads.image c.requires.known;
      refused = λ _. reads;
      opened = λ is. absurd (taken-ok is);
      reads = reads.reads;
      moments = λ l h. (c.in-Err.ensures.layout l h).moments;
      failures = calm RelFile S _ _ c.in-Err.fault other c.in-Err.ensures.refuses.failures;
    }

pub returns-in_default : goal.returns-in_default
returns-in_default g c =
    let S = g.D.Sectors.history in
    let clean = (c.requires.known.remembered c.requires.checked).clean in
    let reads = c.in-Err.ensures.refuses.refused c.in_default.not-Device in
    let full = only c.in-Err.fault c.in_default.not-Exists c.in_default.not-Device c.in-Err.ensures.refuses.told in
    record {
      row = λ s. full-row (S.image c.args.disk.now) c.args.self.now c.args.name.now c.requires.missing c.args.channel s
          c.args.size _ reads.image
          (λ h. ((c.in-Err.ensures.refuses.layout h.0 h.1).full full).1 h.2)
          (clean.0, clean.1.layout, ((c.in-Err.ensures.refuses.layout clean.0 clean.1.layout).full full).0);
      known = known-still _ _ c.args.self.now reads.image c.requires.known;
      refused = λ _. reads;
      opened = λ is. absurd (full-ok is);
      reads = reads.reads;
      moments = λ l h. (c.in-Err.ensures.layout l h).moments;
      failures = calm RelFile S _ _ c.in-Err.fault c.in_default.not-Device c.in-Err.ensures.refuses.failures;
    }
  where
    only : (e : RelFault) → ¬ (e ≡ faults.Exists) → ¬ (e ≡ faults.Device)
        → (e ≡ faults.Exists) ⊎ ((e ≡ faults.Full) ⊎ (e ≡ faults.Device)) → e ≡ faults.Full
    only e a b told = elim told [
      | inl x ↦ absurd (a x)
      | inr (inl x) ↦ x
      | inr (inr x) ↦ absurd (b x)
    ]

pub create-requires : goal.create-requires
create-requires g c = record {
  usable = clean-usable (g.D.Sectors.history.image c.args.disk.now) (c.requires.known.remembered c.requires.checked).clean;
  name = c.requires.name.high;
  low = c.requires.size.low;
  high = c.requires.size.high;
}

pub new-requires : goal.new-requires
new-requires g c = record { fits = c.requires.name.high }

pub returns-in-Device : goal.returns-in-Device
returns-in-Device g c = record {
  row = tt;
  known = tt;
  refused = tt;
  opened = tt;
  reads = tt;
  moments = λ l h. (c.in-Err.ensures.layout l h).moments;
  failures = device-failed RelFile g.D.Sectors.history _ _ c.in-Err.fault c.in-Device.is
      c.in-Err.ensures.refuses.failures;
}
