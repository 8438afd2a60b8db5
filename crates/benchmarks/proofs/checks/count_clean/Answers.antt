use Rattle.std.proofs.Common.{arith}
use Rattle.benchmarks.proofs.Tallies.{found, missed, none}
use Rattle.benchmarks.proofs.checks.count_clean.Goals.{else-is_clean, then-is_clean}
use Rattle.benchmarks.proofs.checks.count_clean.Goals as goal

pub loop-round-init : goal.loop-round-init
loop-round-init g c = none g.D.Sectors.history c.args.disk.now

pub overflow_add-count : goal.overflow_add-count
overflow_add-count g c = omega (arith, c.loop-round.invariant.few, c.loop-round-test.true, c.ranges.rounds.fits)

-- found clean, or not
pub loop-round-preserved : goal.loop-round-preserved
loop-round-preserved g c =
    let S = g.D.Sectors.history in
    let old = c.loop-round.invariant in
    let told = c.is_clean.ensures in
    elim c.if-is_clean.branch [
      | then-is_clean w ↦ rw w.count-is (found S c.args.disk.now c.loop-round.disk c.is_clean.new.disk _ _ old
          told.reads told.later (told.found w.if-is_clean.true))
      | else-is_clean w ↦ rw w.count-is (missed S c.args.disk.now c.loop-round.disk c.is_clean.new.disk _ _ old
          told.reads told.later
          (λ never here. let e = told.clean never here in let f = w.if-is_clean.false in absurd (cc)))
    ]
