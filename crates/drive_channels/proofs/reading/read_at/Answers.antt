-- A record is given, or isn't there, or the device failed.
use Rattle.std.proofs.Common.{ℕ, List, ap, drop, length, ◌-◌, ◌≡◌, ◌≤◌, ◌∙◌, ◌⊎◌, inl, inr, Err, arith, subst, sym}
use Rattle.d64_image.specs.History.{History}
use Rattle.drive_channels.specs.Given.{IsGiven}
use Rattle.rel_records.specs.Faults.{TellsRelFault}
use Rattle.rel_records.specs.declared.faults.RelFault.{RelFault}
use Rattle.rel_records.specs.declared.faults.RelFault.TheVariants as faults
use Rattle.drive_channels.proofs.Refusals.{device-failed}
use Rattle.rel_records.specs.File.{length_of}
use Rattle.drive_channels.proofs.Rows.{absent-row, read-row}
use Rattle.drive_channels.proofs.reading.read_at.Goals as goal

pub returns-in-Ok : goal.returns-in-Ok
returns-in-Ok g c =
    record {
      row =
          rw c.advance.ensures
          (λ s b. read-row (g.D.Sectors.history.image c.args.disk.now) c.args.found.now c.args.spot.now s b
          c.read_record.new.text.items _ c.requires.found (λ l f of. c.in-Ok.ensures.ok l _ f of)
          (subst (λ (xs : List ℕ). IsGiven (drop (c.args.spot.now.position - 1) xs) c.give.new.to.items)
          c.as_slice.ensures.value c.give.ensures));
      spot =
          rw c.advance.ensures (record {
            low = c.requires.spot.low;
            high = c.requires.spot.high;
            record_from = omega arith;
            up_to = omega (arith, c.in-Ok.ensures.bound);
            from = omega arith;
            within = omega (arith, c.requires.spot.from, c.requires.spot.within);
          });
      reads = c.read_record.ensures.reads;
      failures = c.in-Ok.ensures.failures;
    }

-- no record, and no other fault
missing : {D : Type 0} (S : History D) (old new : D) (e : RelFault) → ¬ (e ≡ faults.Device)
    → (e ≡ faults.NotPresent) ⊎ (e ≡ faults.Device)
    → TellsRelFault {T = Unit {0}} S old new (Err e) → (e ≡ faults.NotPresent) × (S.failures new ≡ S.failures old)
missing S old new e other told tells = elim told [
  | inl is ↦ (is, subst (λ (x : RelFault). TellsRelFault {T = Unit {0}} S old new (Err x)) is tells)
  | inr is ↦ absurd (other is)
]

pub returns-in_default : goal.returns-in_default
returns-in_default g c =
    let S = g.D.Sectors.history in
    let m = missing S c.args.disk.now c.read_record.new.disk c.in-Err.fault c.in_default.not-Device
    c.in-Err.ensures.told c.in-Err.ensures.failures in
    record {
      row = rw c.clear.ensures
          (λ s b. absent-row (S.image c.args.disk.now) c.args.found.now c.args.spot.now s b c.requires.found
          c.requires.spot.record_from
          (λ l f of. c.in-Err.ensures.not_present l _ f of m.0));
      spot = c.requires.spot;
      reads = c.read_record.ensures.reads;
      failures = m.1;
    }

pub read_record-requires : goal.read_record-requires
read_record-requires g c = record { of = (c.requires.found.layout, _, c.requires.found.file, c.requires.found.of) }

pub give-requires : goal.give-requires
give-requires g c =
    let long : length c.as_slice.result.now ≡ length_of c.args.found.now.file = ap length c.as_slice.ensures.value
    ∙ c.in-Ok.ensures.size in
    record {
      low = c.requires.spot.from;
      within = subst (λ (n : ℕ). c.args.spot.now.position ≤ n) (sym long) c.requires.spot.within;
      fits = c.as_slice.ensures.fits;
    }

pub advance-requires : goal.advance-requires
advance-requires g c = omega (arith, c.requires.spot.up_to)

pub returns-in-Device : goal.returns-in-Device
returns-in-Device g c = record {
  row = tt;
  spot = tt;
  reads = c.read_record.ensures.reads;
  failures = device-failed (Unit {0}) g.D.Sectors.history _ _ _ c.in-Device.is c.in-Err.ensures.failures;
}
