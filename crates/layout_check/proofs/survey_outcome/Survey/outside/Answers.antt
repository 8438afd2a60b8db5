-- Sector by sector: counted, or another entry's, or on track 18.
use Rattle.std.proofs.Common.{arith, refl}
use Rattle.layout_check.proofs.lemmas.owners.Counting.{counted-all, counted-free, counted-none, counted-shut}
use Rattle.layout_check.proofs.survey_outcome.Survey.outside.Goals as goal
use Rattle.layout_check.proofs.survey_outcome.Survey.outside.Goals.{then-is_open, else-is_open}

pub loop-index-init : goal.loop-index-init
loop-index-init c = record { counted = counted-none c.args.self.now c.args.entry; few = omega arith }

pub loop-index-preserved : goal.loop-index-preserved
loop-index-preserved c =
    elim c.if-is_open.branch [
      | then-is_open w ↦
          let h = c.is_open.ensures.open w.if-is_open.true in
          record {
            counted = rw w.count-is (counted-free c.args.self.now c.args.entry c.loop-index.index _ c.loop-index.count
                c.numbers-number-items.result.now c.numbers-number-items.ensures (omega (arith, c.loop-index-test.true))
                refl h.0 h.1 c.loop-index.invariant.counted);
            few = omega (arith, w.count-is, c.loop-index.invariant.few);
          }
      | else-is_open w ↦ record {
        counted = rw w.count-is (counted-shut c.args.self.now c.args.entry c.loop-index.index _ c.loop-index.count
            c.numbers-number-items.result.now c.numbers-number-items.ensures (omega (arith, c.loop-index-test.true))
            refl (c.is_open.ensures.shut w.if-is_open.false) c.loop-index.invariant.counted);
        few = omega (arith, w.count-is, c.loop-index.invariant.few);
      }
    ]

pub returns : goal.returns
returns c = counted-all c.args.self.now c.args.entry c.loop-index.index c.loop-index.count
    (omega (arith, c.loop-index-test.false, c.loop-index.auto)) c.loop-index.invariant.counted
