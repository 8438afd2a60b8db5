-- The length, and one part of zeros more.
use Rattle.std.proofs.Common.{refl}
use Rattle.image_log.proofs.Laid.{laid_more, laid_ok}
use Rattle.image_log.proofs.laying_out.lay_out.Goals as goal

pub loop-k-preserved : goal.loop-k-preserved
loop-k-preserved g c = record {
  laid = λ known. laid_more (g.F.LogFile.history.held c.loop-k.file) (g.F.LogFile.history.held c.write_at.new.self) c.loop-k.k 102400 refl
      c.loop-k-test.true c.in_ok-write_at.ensures.ok (c.loop-k.invariant.laid known);
  unknown = λ none. c.write_at.ensures.unknown (c.loop-k.invariant.unknown none);
}

pub returns-clause-laid : goal.returns-clause-laid
returns-clause-laid g c = laid_ok g.F.LogFile.history c.loop-k.file c.sync-2.new.self c.sync-2.result c.sync-2.ensures
    c.loop-k.invariant.laid
