-- A walk along a directory that is there.
use Rattle.std.proofs.Common.{ℕ, arith, sym}
use Rattle.std.proofs.lemmas.Result.{err_from_is_err_and}
use Rattle.d64_image.proofs.Moments.{reads_weaker}
use Rattle.disk_layout.proofs.lemmas.chains.Chains.{IsChain-one}
use Rattle.disk_layout.specs.Directory.{directory_start}
use Rattle.layout_check.proofs.lemmas.judging.Calls.{passes_none, passes_weaker}
use Rattle.layout_check.proofs.lemmas.finding.Roots.{again-tells}
use Rattle.layout_check.proofs.recounting.find_directory.Goals as goal

pub returns-in_err-walk_chain-clause-err : goal.returns-in_err-walk_chain-clause-err
returns-in_err-walk_chain-clause-err g c =
    let S = g.D.Sectors.history in
    let a = c.args.disk.now in
    let p = err_from_is_err_and c.from_residual.result c.from_residual.ensures.1 in
    let (ps, slots, d) = c.requires in
    let told = again-tells S ℕ a a c.walk_chain.new.disk ps slots _ _ (omega (arith, c.walk_chain.ensures.few))
    (passes_weaker S a a 0 18 (omega arith) (passes_none S a)) d
    c.in_err-walk_chain.ensures.reads c.in_err-walk_chain.ensures.failures
    (rw c.directory_start.ensures at c.in_err-walk_chain.ensures.fault) in
    rw (p.1, p.2) (record {
      reads = reads_weaker S a c.walk_chain.new.disk _ 683 c.walk_chain.ensures.few
          c.in_err-walk_chain.ensures.reads;
      failures = told.failures;
      holds = told.holds;
    })

pub returns-clause-directory : goal.returns-clause-directory
returns-clause-directory g c ps slots d =
    sym (IsChain-one _ directory_start ps c.walk_chain.new.places.items d.last _ d.chain
    (rw c.directory_start.ensures at c.in_ok-walk_chain.ensures.chain)).0
