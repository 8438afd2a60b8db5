-- The block behind the one that is kept is the one that its link names.
use Rattle.rel_records.proofs.lemmas.Told.{fault-is, none-done, passed-on}
use Rattle.std.proofs.Common.{refl, ◌∙◌, arith}
use Rattle.rel_records.proofs.lemmas.reading.Readings.{behind-is, behind-there, kept-is}
use Rattle.rel_records.proofs.reading.record_order.go_on.Goals as goal

pub read_behind-requires : goal.read_behind-requires
read_behind-requires g c =
    let here = kept-is (g.D.Sectors.history.image c.args.disk.now) c.args.file.now c.args.last.now c.args.here
    c.requires.number c.requires.kept in
    behind-there _ c.args.file.now c.args.here c.args.last.now.bytes c.requires.of here c.requires.there

pub returns-clause-kept : goal.returns-clause-kept
returns-clause-kept g c = λ l n f of.
    let here = kept-is (g.D.Sectors.history.image c.args.disk.now) c.args.file.now c.args.last.now c.args.here
    c.requires.number c.requires.kept in
    behind-is _ l n f c.args.file.now of c.args.here c.args.last.now.bytes _ (here l n f of) c.requires.there
    c.in_ok-read_behind.ensures.ok

pub returns-in_err-read_behind-clause-next : goal.returns-in_err-read_behind-clause-next
returns-in_err-read_behind-clause-next g c = record {
  ok = none-done c.from_residual.result _ c.from_residual.ensures.1 _;
  err = fault-is c.from_residual.result _ c.from_residual.ensures.1 _ (λ e is. is ∙ c.in_err-read_behind.ensures.err);
  reads = c.read_behind.ensures.reads;
  failures = passed-on g.D.Sectors.history _ _ _ refl c.from_residual.result _ c.from_residual.ensures.1
      c.in_err-read_behind.ensures.failures;
}

pub returns-clause-next : goal.returns-clause-next
returns-clause-next g c = record {
  ok = refl;
  err = tt;
  reads = c.read_behind.ensures.reads;
  failures = c.in_ok-read_behind.ensures.failures;
}

pub overflow_add-last : goal.overflow_add-last
overflow_add-last g c = omega (arith, c.requires.there, c.args.file.now.few)
