-- A record that isn't there is told without a read.
use Rattle.std.proofs.Common.{arith, inr, ◌<◌, length, inl, refl}
use Rattle.std.proofs.lemmas.Result.{IfErr-weaker}
use Rattle.d64_image.proofs.Moments.{no_reads, reads_weaker}
use Rattle.d64_image.proofs.Told.{at-ok}
use Rattle.disk_layout.specs.Records.{records}
use Rattle.rel_records.proofs.lemmas.Told.{device-not-present, if-then}
use Rattle.rel_records.proofs.lemmas.reading.Counts.{fewer}
use Rattle.rel_records.proofs.lemmas.reading.Readings.{count-is, placed}
use Rattle.rel_records.proofs.reading.record_order.read_next.Goals as goal

pub returns-then-number-eq0-clause-text : goal.returns-then-number-eq0-clause-text
returns-then-number-eq0-clause-text g c =
    record {
      ok = λ l n f of. tt;
      size = tt;
      bound = tt;
      not_present = λ l n f of e. inl c.if-number-eq0.true;
      told = inl refl;
      reads = reads_weaker g.D.Sectors.history c.args.disk.now c.args.disk.now 0 3 (omega arith)
          (no_reads g.D.Sectors.history c.args.disk.now);
      failures = refl;
    }

pub returns-then-not-has_records-clause-text : goal.returns-then-not-has_records-clause-text
returns-then-not-has_records-clause-text g c =
    record {
      ok = λ l n f of. tt;
      size = tt;
      bound = tt;
      not_present = λ l n f of _.
          let S = g.D.Sectors.history in
          let past : length (records (S.image c.args.disk.now) f) < c.args.number = omega (
            arith,
            fewer c.has_records.result _ _ c.has_records.ensures c.if-not-has_records.true,
            count-is
                (S.image c.args.disk.now) l n f c.args.file.now of,
          ) in
          inr past;
      told = inl refl;
      reads = reads_weaker g.D.Sectors.history c.args.disk.now c.args.disk.now 0 3 (omega arith)
          (no_reads g.D.Sectors.history c.args.disk.now);
      failures = refl;
    }

pub returns-clause-text : goal.returns-clause-text
returns-clause-text g c =
    let S = g.D.Sectors.history in
    record {
      ok = λ l n f of. if-then c.next_there.result _ _ (λ done h. h.bytes l n f of) c.next_there.ensures.text.ok;
      size = if-then c.next_there.result _ _ (λ done h. h.size) c.next_there.ensures.text.ok;
      bound = at-ok c.next_there.result
          (placed (S.image c.args.disk.now) c.args.file.now c.args.number c.requires.of (S.whole c.args.disk.now)
          (omega (arith, c.if-number-eq0.false)) (c.has_records.ensures.0 c.if-not-has_records.false));
      not_present = λ l n f of. IfErr-weaker c.next_there.result _ _ (λ e is o. device-not-present e is o)
          c.next_there.ensures.text.err;
      told = IfErr-weaker c.next_there.result _ _ (λ e is. inr is) c.next_there.ensures.text.err;
      reads = c.next_there.ensures.text.reads;
      failures = c.next_there.ensures.text.failures;
    }

pub returns-then-number-eq0-clause-near : goal.returns-then-number-eq0-clause-near
returns-then-number-eq0-clause-near g c kept =
    reads_weaker g.D.Sectors.history c.args.disk.now c.args.disk.now 0 _ (omega arith)
    (no_reads g.D.Sectors.history c.args.disk.now)

pub returns-then-not-has_records-clause-near : goal.returns-then-not-has_records-clause-near
returns-then-not-has_records-clause-near g c kept =
    reads_weaker g.D.Sectors.history c.args.disk.now c.args.disk.now 0 _ (omega arith)
    (no_reads g.D.Sectors.history c.args.disk.now)

pub next_there-requires-clause-low : goal.next_there-requires-clause-low
next_there-requires-clause-low g c = omega (arith, c.if-number-eq0.false)
