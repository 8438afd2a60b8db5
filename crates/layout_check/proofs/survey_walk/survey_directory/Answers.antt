-- The entries, and then the sectors along the same chain.
use Rattle.std.proofs.Common.{ℕ, arith}
use Rattle.std.proofs.lemmas.Result.{err_from_is_err_and}
use Rattle.layout_check.proofs.lemmas.finding.Roots.{again-tells, directory-passes, directory-tells, directory-walked}
use Rattle.layout_check.proofs.survey_walk.survey_directory.Goals as goal

pub returns-in_err-read_directory : goal.returns-in_err-read_directory
returns-in_err-read_directory g c =
    let p = err_from_is_err_and c.from_residual.result c.from_residual.ensures.1 in
    record {
      directory = rw p.1 tt;
      ok = rw p.1 tt;
      err = rw (p.1, p.2) (directory-tells g.D.Sectors.history (Unit {0}) c.args.disk.now c.read_directory.new.disk _
          c.in_err-read_directory.ensures.reads c.in_err-read_directory.ensures.failures
          c.in_err-read_directory.ensures.err);
    }

pub returns-in_err-walk_chain : goal.returns-in_err-walk_chain
returns-in_err-walk_chain g c =
    let p = err_from_is_err_and c.from_residual-in_err-walk_chain.result c.from_residual-in_err-walk_chain.ensures.1 in
    record {
      directory = rw p.1 tt;
      ok = rw p.1 tt;
      err = let d = c.in_ok-read_directory.ensures.ok in
          rw (p.1, p.2) (again-tells g.D.Sectors.history ℕ c.args.disk.now c.read_directory.new.disk
          c.walk_chain.new.disk d.0 c.read_directory.new.slots.items _ _
          (omega (arith, c.in_err-walk_chain.ensures.few))
          (record { reads = c.in_ok-read_directory.ensures.reads; failures = c.in_ok-read_directory.ensures.failures })
          d.1 c.in_err-walk_chain.ensures.reads c.in_err-walk_chain.ensures.failures
          (rw c.directory_start.ensures at c.in_err-walk_chain.ensures.fault));
    }

pub returns : goal.returns
returns g c = record {
  directory = let d = c.in_ok-read_directory.ensures.ok in
      directory-walked _ _ d.0 c.walk_chain.new.places.items c.read_directory.new.slots.items _
      c.in_ok-read_directory.ensures.reads.image d.1
      (rw c.directory_start.ensures at c.in_ok-walk_chain.ensures.chain);
  ok = directory-passes g.D.Sectors.history c.args.disk.now c.read_directory.new.disk c.walk_chain.new.disk _
      (record { reads = c.in_ok-read_directory.ensures.reads; failures = c.in_ok-read_directory.ensures.failures })
      c.in_ok-walk_chain.ensures.reads c.in_ok-walk_chain.ensures.failures;
  err = tt;
}
