-- The record's bytes are those of the block and of the one that it names.
use Rattle.std.proofs.Common.{ap, drop, refl, take, ◌++◌, ◌∙◌}
use Rattle.d64_image.specs.Images.{Sector}
use Rattle.rel_records.proofs.lemmas.Told.{fault-is, none-done, passed-on}
use Rattle.rel_records.proofs.reading.read_across.Goals as goal

pub returns : goal.returns
returns g c =
    record {
      ok = λ p named. c.fill_record.ensures
          ∙ ap (λ (b : Sector). take c.args.size (drop c.args.start (drop 2 c.args.first.now ++ drop 2 b)))
          (c.in_ok-read_behind.ensures.ok p named);
      err = tt;
      reads = c.read_behind.ensures.reads;
      failures = c.in_ok-read_behind.ensures.failures;
    }

pub returns-in_err-read_behind : goal.returns-in_err-read_behind
returns-in_err-read_behind g c =
    record {
      ok = none-done c.from_residual.result _ c.from_residual.ensures.1 _;
      err = fault-is c.from_residual.result _ c.from_residual.ensures.1 _
          (λ e is. is ∙ c.in_err-read_behind.ensures.err);
      reads = c.read_behind.ensures.reads;
      failures = passed-on g.D.Sectors.history _ _ _ refl c.from_residual.result _ c.from_residual.ensures.1
          c.in_err-read_behind.ensures.failures;
    }
