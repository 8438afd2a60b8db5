-- A track is counted wrong, or all are right.
use Rattle.std.proofs.Common.{◌+◌, arith, refl, sym, ◌∙◌}
use Rattle.std.proofs.lemmas.Bool.{false≢true}
use Rattle.disk_reports.proofs.Shown.{counted-later}
use Rattle.disk_reports.proofs.map_bits.has_wrong_count.Goals as goal

pub loop-below-init : goal.loop-below-init
loop-below-init c = record { right = λ t low high. absurd (omega (arith, low, high)) }

pub loop-below-preserved : goal.loop-below-preserved
loop-below-preserved c = record {
  right = counted-later c.args.map.now c.loop-below.below (c.is_counted.ensures.0 c.if-not-is_counted.false)
      c.loop-below.invariant.right;
}

pub returns-then-not-is_counted : goal.returns-then-not-is_counted
returns-then-not-is_counted c = (
  λ _. (
    c.loop-below.below + 1,
    omega arith,
    omega arith,
    λ same. false≢true (sym c.if-not-is_counted.true ∙ c.is_counted.ensures.1 same),
  ),
  λ _. refl,
)

pub returns : goal.returns
returns c = (
  λ t. absurd (false≢true t),
  λ (t, low, high, wrong). absurd (wrong (c.loop-below.invariant.right t low (omega (arith, high)))),
)
