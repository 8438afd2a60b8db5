use Rattle.std.proofs.Common.{refl, arith}
use Rattle.d64_image.proofs.Moments.{read_fails}
use Rattle.host_session.proofs.lemmas.Held.{changes_weaker, reads_change}
use Rattle.rel_records.specs.Written.{IsWriting}
use Rattle.host_session.proofs.lemmas.writing.Selection.{moved-to, ok-ready, ok-records, told-after}
use Rattle.host_session.proofs.lemmas.writing.Selection.{fails-after, writing-same, written-moments, written-ok}
use Rattle.host_session.proofs.lemmas.writing.Positions.{placed-count, placed-reach, placed-rel}
use Rattle.host_session.specs.shop.Selecting.{channel_at}
use Rattle.host_session.specs.shop.Channels.{name_of}
use Rattle.std.proofs.lemmas.Result.{err_from_is_err_and}
use Rattle.host_session.proofs.shop.records.write_record.Goals as goal

pub select-requires-clause-reach : goal.select-requires-clause-reach
select-requires-clause-reach g c = let p = c.requires.placed in
    (p.0, p.1, p.2, placed-reach g.D.Sectors.history c.args.drive.now.disk p.3)

pub returns-in_err-select : goal.returns-in_err-select
returns-in_err-select g c =
    let e = err_from_is_err_and c.from_residual.result c.from_residual.ensures.1 in
    let S = g.D.Sectors.history in
    record {
      puts = record {
        ready = rw e.1 tt;
        ok = rw e.1 (λ p is. tt);
        -- a call that only read
        moments = λ p is.
            changes_weaker S c.args.drive.now.disk c.select.new.self.disk 0 _ _ _ (omega arith) (λ i h. h)
            (reads_change S c.args.drive.now.disk c.select.new.self.disk 2817
            (IsWriting (S.image c.args.drive.now.disk) p.0 p.1 p.2 0 c.args.number 1 c.args.text.now)
            c.select.ensures.reads (writing-same (S.image c.args.drive.now.disk) (name_of c.args.file) c.args.number
            p.0 p.1 p.2 c.args.text.now is));
        failures = rw e.1 c.in_err-select.ensures.failures;
        dies = rw e.1 (λ is. c.in_err-select.ensures.dies refl);
      };
      one_step = rw e.1 (λ l n f p one. read_fails S c.args.drive.now.disk c.select.new.self.disk 2817
          c.in_err-select.ensures.reads);
    }

pub returns : goal.returns
returns g c =
    let S = g.D.Sectors.history in
    let name = name_of c.args.file in
    let old = c.args.drive.now in
    record {
      puts = record {
        ready = let p = c.requires.placed in
            ok-ready c.write.result _ _ _ (written-ok S old c.select.new.self c.write.new.self c.write.result name
            c.args.text.now c.args.number p.0 p.1 p.2 c.select.ensures.reads.image
            (c.in_ok-select.ensures.at p.0 p.1 p.2 (placed-reach S old.disk p.3))
            c.write.ensures.serves c.write.ensures.row c.requires.some p.3);
        ok = λ p is.
            ok-records c.write.result _ _ _ (written-ok S old c.select.new.self c.write.new.self c.write.result name
            c.args.text.now c.args.number p.0 p.1 p.2 c.select.ensures.reads.image
            (c.in_ok-select.ensures.at p.0 p.1 p.2 (placed-reach S old.disk is))
            c.write.ensures.serves c.write.ensures.row c.requires.some is);
        moments = λ p is.
            written-moments S old c.select.new.self c.write.new.self name c.args.text.now c.args.number 2817 p.0 p.1
            p.2 c.select.ensures.reads (c.in_ok-select.ensures.at p.0 p.1 p.2 (placed-reach S old.disk is))
            c.requires.some is c.write.ensures.moments;
        failures = let p = c.requires.placed in
            told-after S old.disk c.select.new.self.disk c.write.new.self.disk c.write.result
            c.in_ok-select.ensures.failures (c.write.ensures.serves.failures
            (c.in_ok-select.ensures.at p.0 p.1 p.2 (placed-reach S old.disk p.3)).alive);
        dies = c.write.ensures.serves.dies.1;
      };
      one_step = λ l n f p one.
          let at = c.in_ok-select.ensures.at l n f (placed-reach S old.disk p) in
          let q = moved-to S old.disk c.select.new.self.disk name c.args.number l n f c.select.ensures.reads.image p in
          fails-after S old.disk c.select.new.self.disk c.write.new.self.disk c.write.result 2817
          c.select.ensures.reads
          (c.write.ensures.one_step (channel_at n c.args.number) l f (at.on, refl)
          (placed-rel _ name c.args.number l n f q) (placed-count _ name c.args.number l n f q) one);
    }
